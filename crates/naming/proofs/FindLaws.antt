-- What is found in the table is the number of the rules.
use Rattle.std.proofs.Common.{◌≡◌, ℕ, zero, suc, ◌+◌, ◌<◌, Bool, true, false, List, [], ◌∷◌, length, refl, ap, sym, ◌∙◌, arith}
use Rattle.std.specs.Prelude.{Option as Code, Some, None}
use Rattle.std.proofs.Math.Option.{Option, none, some, none-ne-some, some-injective}
use Rattle.std.proofs.Math.ListN.{get_elem?}
use borrow.Author.Tests.{eqb-true}
use Rattle.text_rules.specs.TextWords.{Declaration, number_of, is_number, declared_twice}
use Rattle.text_rules.specs.Text.{text_declarations}
use Rattle.text.specs.Hash.{last_with, found_at, is_name}
use Rattle.text.specs.Names.{Table, name_at}
use Rattle.text.specs.Steps.{option_of}
use Rattle.text.proofs.NameLaws.{last-below, found_some}
use Rattle.text.proofs.NumberLaws.{Names, Distinct, number_from, found_number_lem}
use Rattle.naming.specs.declared.declarations.Symbol.{Symbol}
use Rattle.naming.specs.Table.{Declared}
use Rattle.naming.proofs.WalkLaws.{twice-later, twice-here}

-- A declaration of a number.
pub is_below : (xs : List Declaration) (j : ℕ) (d : Declaration) → get_elem? xs j ≡ some d → j < length xs
is_below [] j d e = absurd (none-ne-some d e)
is_below (x ∷ xs) zero d e = omega arith
is_below (x ∷ xs) (suc j) d e = omega (arith, is_below xs j d e)

pub is-there : (xs : List Declaration) (j : ℕ) → j < length xs → (d : Declaration) × (get_elem? xs j ≡ some d)
is-there [] j l = absurd (omega arith)
is-there (x ∷ xs) zero l = (x, refl)
is-there (x ∷ xs) (suc j) l = is-there xs j (omega arith)

names-from : (at : ℕ) (xs : List Declaration) (name : ℕ → List ℕ) → ((j : ℕ) (d : Declaration) → get_elem? xs j ≡ some d → name (at + j) ≡ d.name) → Names at xs name
names-from at [] name h = tt
names-from at (x ∷ xs) name h =
    let z : at ≡ at + 0 = omega arith in (
      sym (ap name z ∙ h 0 x refl),
      names-from (suc at) xs name (λ j d q. let s : suc at + j ≡ at + suc j = omega arith in ap name s ∙ h (suc j) d q),
    )

pub names_of : (xs : List Declaration) (name : ℕ → List ℕ) → ((j : ℕ) (d : Declaration) → get_elem? xs j ≡ some d → name j ≡ d.name) → Names 0 xs name
names_of xs name h = names-from 0 xs name (λ j d q. let s : 0 + j ≡ j = omega arith in ap name s ∙ h j d q)

-- Where none is declared twice, each declaration's name has its number.
its-number : (o : Option ℕ) (at : ℕ) → is_number o at ≡ true → o ≡ some at
unfolding is_number
its-number none at e = cc
its-number (some n) at e = ap some (eqb-true n at e)

numbered :
    (all : List Declaration) (at : ℕ) (xs : List Declaration) → declared_twice all at xs ≡ none → (j : ℕ) (d : Declaration) → get_elem? xs j ≡ some d
    → number_of d.name 0 all ≡ some (at + j)
numbered all at [] e j d q = absurd (none-ne-some d q)
numbered all at (x ∷ xs) e j d q = go (is_number (number_of x.name 0 all) at) refl j q (numbered all (suc at) xs)
  where
    go :
        (b : Bool) → is_number (number_of x.name 0 all) at ≡ b → (j : ℕ) → get_elem? (x ∷ xs) j ≡ some d
        → (declared_twice all (suc at) xs ≡ none → (j : ℕ) (d : Declaration) → get_elem? xs j ≡ some d → number_of d.name 0 all ≡ some (suc at + j))
        → number_of d.name 0 all ≡ some (at + j)
    go true f zero q r =
        let s : at ≡ at + 0 = omega arith in
        ap (λ y. number_of y.name 0 all) (sym (some-injective x d q)) ∙ its-number (number_of x.name 0 all) at f ∙ ap some s
    go true f (suc j) q r =
        let s : suc at + j ≡ at + suc j = omega arith in r (sym (twice-later all at x xs f) ∙ e) j d q ∙ ap some s
    go false f j q r = absurd (none-ne-some x.left (sym e ∙ twice-here all at x xs f))

module _ (ds : List Declaration) (name : ℕ → List ℕ) (e : declared_twice ds 0 ds ≡ none) (h : (j : ℕ) (d : Declaration) → get_elem? ds j ≡ some d → name j ≡ d.name) where
  of_number : (j : ℕ) → j < length ds → number_of (name j) 0 ds ≡ some j
  of_number j l = let t = is-there ds j l in let s : 0 + j ≡ j = omega arith in ap (λ w. number_of w 0 ds) (h j t.0 t.1) ∙ numbered ds 0 ds e j t.0 t.1 ∙ ap some s

  pub all-distinct : Distinct name (length ds)
  all-distinct i j l m q =
      let s = some-injective i j (sym (of_number i (omega arith)) ∙ ap (λ w. number_of w 0 ds) q ∙ of_number j m) in omega arith

-- For callers of `find`: its answer for a name is the number of the rules.
module _ (t : Table Symbol) (D : Declared t) (w : List ℕ) (r : Code ℕ) (found : r ≡ found_at (last_with (is_name w) (name_at t) (length t.entries))) where
  abbrev last : ℕ
  last = last_with (is_name w) (name_at t) (length t.entries)

  pub find-number : number_of w 0 (text_declarations t.text) ≡ option_of r
  find-number =
      let ds = text_declarations t.text in
      let name = name_at t in
      found_number_lem ds name (names_of ds name D.names) w (all-distinct ds name D.distinct D.names)
      ∙ ap number_from (ap (last_with (is_name w) name) D.count)
      ∙ go last
      ∙ ap option_of (sym found)
    where
      go : (k : ℕ) → number_from k ≡ option_of (found_at k)
      go zero = refl
      go (suc k) = refl

  pub find_none : r ≡ None → number_of w 0 (text_declarations t.text) ≡ none
  find_none e = find-number ∙ ap option_of e

  pub find-some : (j : ℕ) → r ≡ Some j → number_of w 0 (text_declarations t.text) ≡ some j
  find-some j e = find-number ∙ ap option_of e

  -- It is a declaration's.
  pub find-below : (j : ℕ) → r ≡ Some j → j < length t.entries
  find-below j e = omega (arith, found_some last j (sym e ∙ found), last-below (is_name w) (name_at t) (length t.entries))
