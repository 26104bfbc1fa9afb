-- Walking over the declarations.
use Rattle.std.proofs.Common.{◌≡◌, ℕ, zero, suc, ◌+◌, ◌-◌, ◌≤◌, ◌<◌, true, false, List, [], ◌∷◌, length, drop, refl, ap, ap₂, sym, ◌∙◌, arith, add-one, length-drop}
use Rattle.std.proofs.Math.Option.{none, some}
use Rattle.std.proofs.Math.ListN.{get_elem?}
use Rattle.std.specs.List.{slice_range}
use Rattle.text_rules.specs.TextTokens.{tokens}
use Rattle.text_rules.specs.TextGrammar.{item, unread}
use Rattle.text_rules.specs.TextWords.{declarations, clause_tokens, number_of, is_number, declared_twice}
use Rattle.text_rules.specs.TextWords as rules
use Rattle.text_rules.specs.Text.{numbers_in, text_declarations, text_unread, place_of}
use Rattle.text.specs.declared.start.Start.{Start}
use Rattle.text.specs.Starts.{Starts}
use Rattle.naming.specs.declared.declarations.Declaration.{Declaration}
use Rattle.text.specs.Hash.{last_with, found_at, is_name}
use Rattle.text.specs.Names.{Table, name_at}
use Rattle.std.specs.Prelude.{Option as Code, Some, None, MatchOption}
use Rattle.std.specs.Iterator.{Yields, SkipsThenYields}
use Rattle.text.specs.declared.readable.Readable.{Readable}
use Rattle.std.specs.Option.{is_some}
use mathlib.Core.Bool.{false≢true}
use Rattle.naming.specs.declared.walks.Walk.{Walk}
use Rattle.naming.specs.Steps.{Onward, GivesDeclaration}
use Rattle.naming.specs.Walks.{declaration_of, Declares, Ends, At, Passed, AllCounted}

-- The first of what is left of a list.
drop-first :
    (xs : List rules.Declaration) (n : ℕ) (x : rules.Declaration) (ys : List rules.Declaration) → drop n xs ≡ x ∷ ys
    → (n < length xs) × (get_elem? xs n ≡ some x) × (drop (suc n) xs ≡ ys)
drop-first [] zero x ys e = absurd (omega (arith, ap length e))
drop-first [] (suc n) x ys e = absurd (omega (arith, ap length e))
drop-first (y ∷ xs) zero x ys e = (omega arith, ap (λ l. get_elem? l 0) e, ap (drop 1) e)
drop-first (y ∷ xs) (suc n) x ys e = let r = drop-first xs n x ys e in (omega (arith, r.0), r.1, r.2)

-- The first name declared for the second time, one by one.
module _ (all : List rules.Declaration) (at : ℕ) (d : rules.Declaration) (ds : List rules.Declaration) where
  pub twice-later : is_number (number_of d.name 0 all) at ≡ true → declared_twice all at (d ∷ ds) ≡ declared_twice all (suc at) ds
  unfolding declared_twice
  twice-later e = rw (e, declared_twice)

  pub twice-here : is_number (number_of d.name 0 all) at ≡ false → declared_twice all at (d ∷ ds) ≡ some d.left
  unfolding declared_twice
  twice-here e = rw (e, declared_twice)

pub passed_none : (text : List ℕ) (r : Start) → Starts text r → text_unread text ≡ none → Passed text r.at 0
unfolding text_declarations text_unread
passed_none text r h e =
    record {
      inside = h.inside;
      few = omega arith;
      below = omega arith;
      rest = ap (declarations 0) (sym h.items);
      clauses = ap (clause_tokens 0) (sym h.items);
      readable = ap (unread (item (numbers_in text))) h.items ∙ e;
    }

module _ (text : List ℕ) (at n : ℕ) (p : Passed text at n) where
  abbrev ds : List rules.Declaration
  ds = text_declarations text

  -- A declaration.
  module _ (d : Declaration) (h : Declares text at d) where
    abbrev left : List rules.Declaration
    left = declarations 0 (tokens 0 (drop d.end text))

    here : drop n ds ≡ declaration_of text d ∷ left
    here = p.rest ∙ h.first

    first : (n < length ds) × (get_elem? ds n ≡ some (declaration_of text d)) × (drop (suc n) ds ≡ left)
    first = drop-first ds n (declaration_of text d) left here

    pub passed-below : n < length ds
    passed-below = first.0

    pub passed-this : get_elem? ds n ≡ some (declaration_of text d)
    passed-this = first.1

    later : drop (n + 1) ds ≡ left
    later = ap (λ k. drop k ds) (add-one n) ∙ first.2

    pub passed-one : Passed text d.end (n + 1)
    passed-one =
        record {
          inside = h.inside;
          few = omega (arith, p.few, h.later, h.forward, h.before);
          below = omega (arith, passed-below);
          rest = later;
          clauses = p.clauses ∙ h.clauses;
          readable = h.readable;
        }

    -- Looking for a name declared twice.
    module _ (e : declared_twice ds 0 ds ≡ declared_twice ds n (drop n ds)) where
      pub once-here : is_number (number_of (slice_range text d.from d.to) 0 ds) n ≡ true → declared_twice ds 0 ds ≡ declared_twice ds (n + 1) (drop (n + 1) ds)
      once-here q =
          e ∙ ap (declared_twice ds n) here ∙ twice-later ds n (declaration_of text d) left q ∙ ap₂ (declared_twice ds) (sym (add-one n)) (sym later)

      pub again-here : is_number (number_of (slice_range text d.from d.to) 0 ds) n ≡ false → place_of text (declared_twice ds 0 ds) ≡ some d.from
      unfolding place_of
      again-here q =
          let back : length text - (length text - d.from) ≡ d.from = omega (arith, h.forward, h.before, h.inside) in
          ap (place_of text) (e ∙ ap (declared_twice ds n) here ∙ twice-here ds n (declaration_of text d) left q) ∙ ap some back

  -- No more.
  module _ (h : Ends text at) where
    nothing : drop n ds ≡ []
    nothing = p.rest ∙ h.first

    pub passed-all : length ds ≡ n
    passed-all = omega (arith, p.below, length-drop n ds, ap length nothing)

    pub passed_counted : AllCounted text n at
    passed_counted = record { count = passed-all; inside = p.inside; clauses = p.clauses ∙ h.clauses }

    pub once-nowhere : declared_twice ds 0 ds ≡ declared_twice ds n (drop n ds) → declared_twice ds 0 ds ≡ none
    unfolding declared_twice
    once-nowhere e = e ∙ ap (declared_twice ds n) nothing

-- What is looked for in a text, by a table over that text.
pub looked_up :
    {V : Type 0} (t : Table V) (text : List ℕ) → text ≡ t.text → (from to : ℕ) (r : Code ℕ) → r ≡ found_at (last_with (is_name (slice_range text from to)) (name_at t) (length t.entries))
    → r ≡ found_at (last_with (is_name (slice_range t.text from to)) (name_at t) (length t.entries))
looked_up t text m from to r e = e ∙ ap (λ x. found_at (last_with (is_name (slice_range x from to)) (name_at t) (length t.entries))) m

-- What a test of an answer says.
pub some_there : (r : Code ℕ) → is_some r ≡ true → (j : ℕ) × (r ≡ Some j)
some_there None e = absurd (false≢true e)
some_there (Some j) e = (j, refl)

pub nothing_there : (r : Code ℕ) → is_some r ≡ false → r ≡ None
nothing_there None e = refl
nothing_there (Some j) e = absurd (false≢true (sym e))

-- So many items of a walk.
walked : (s : Walk) (xs : List Declaration) (t : Walk) → Yields GivesDeclaration s xs t → (t.text ≡ s.text) × (t.count ≡ s.count + length xs)
walked s [] t y = (ap (λ (w : Walk). w.text) (sym y), omega (arith, ap (λ (w : Walk). w.count) y))
walked s (d ∷ xs) t y =
    let r = walked y.0 xs t y.2 in
    (r.0 ∙ y.1.text, omega (arith, r.1, y.1.onward.0))

module _ (s u : Walk) (r : Code Declaration) (y : SkipsThenYields GivesDeclaration s 4095 r u) where
  abbrev last : Walk
  last = y.1.0

  gone : (last.text ≡ s.text) × (last.count ≡ s.count + length y.0)
  gone = walked s y.0 last y.1.1

  pub skipped_text : u.text ≡ s.text
  skipped_text = y.1.2.text ∙ gone.0

  all-passed : Ends last.text.text.now last.at → length (text_declarations s.text.text.now) ≡ s.count + length y.0
  all-passed h =
      ap (λ (t : Readable). length (text_declarations t.text.now)) (sym gone.0)
      ∙ passed-all last.text.text.now last.at last.count last.passed h
      ∙ gone.1

  pub skipped_count : (u.count ≤ s.count + 4096) × (s.count < length (text_declarations s.text.text.now) → s.count < u.count)
  skipped_count = go r y.2 y.1.2.found y.1.2.onward
    where
      go :
          (o : Code Declaration) → MatchOption o (length y.0 ≤ 4095) (λ _. length y.0 ≡ 4095) → At last.text.text.now last.at o → Onward last o u
          → (u.count ≤ s.count + 4096) × (s.count < length (text_declarations s.text.text.now) → s.count < u.count)
      go None m h e = (omega (arith, gone.1, e.0, m), λ l. omega (arith, gone.1, e.0, all-passed h))
      go (Some d) m h e = (omega (arith, gone.1, e.0, m), λ l. omega (arith, gone.1, e.0, m))
