-- How large a column's sum is: the values of a deck's numbers have 16 bits.
use Prim.Native.Nat.{ℕ, zero, suc, ◌<◌}
use mathlib.Core.Path.{◌≡◌, refl, sym, subst}
use mathlib.Core.Bool.{Bool, true, false}
use mathlib.Core.Option.{Option, none, some, none-ne-some, some-injective}
use mathlib.Core.List.{List, [], ◌∷◌}
use native.Mathlib.Omega.{arith}
use lib.ListN.{length, take, drop, get_elem?}
use lib.Dec.{eqb}
use Rattle.std.proofs.lemmas.Int.{ints}
use Rattle.rules.specs.Terms.{Terms, var, app, nil, cons}
use Rattle.rules.specs.Syntax.{Format, format1, format2, Deck, Goal}
use Rattle.rules.specs.Refusals.{accepted}
use Rattle.rules.specs.Decks.{header, symbol_part, read_all, read_value, read_values, numbers, distinct, keep_distinct, read_format, open_deck}
use Rattle.rules.specs.WellFormed.{All}
use Rattle.rules.specs.Column.{flatten, number_word, term_word, entry_word, column_words, Mean, total}
use Rattle.rules.proofs.SymbolLaws.{read_next_lem}
use Rattle.rules.proofs.DeckLaws.{steps-open}
use Rattle.rules.proofs.ColumnLaws.{ColumnSays}
use Rattle.column.proofs.SumLaws.{Within, within-more}

abbrev pub Words : List ℕ → Type 0
Words ws = All (λ w. w < 65536) ws

taken : (n : ℕ) (ws : List ℕ) → Words ws → Words (take n ws)
taken zero ws a = tt
taken (suc n) [] a = tt
taken (suc n) (w ∷ ws) a = (a.0, taken n ws a.1)

dropped : (n : ℕ) (ws : List ℕ) → Words ws → Words (drop n ws)
dropped zero ws a = a
dropped (suc n) [] a = tt
dropped (suc n) (w ∷ ws) a = dropped n ws a.1

-- The values of numbers.
ValueFits : Option ℕ → Type 0
ValueFits none = Unit {0}
ValueFits (some v) = v < 65536

value-fits : (w v : ℕ) (o : Option ℕ) → v < 65536 → read_value w v ≡ some o → ValueFits o
unfolding read_value ValueFits
value-fits w v none h e = tt
value-fits w v (some u) h e = go (eqb w 512) (eqb v 0) refl refl
  where
    go : (a b : Bool) → eqb w 512 ≡ a → eqb v 0 ≡ b → u < 65536
    go true b p q =
        let z : ◌≡◌ {A = Option (Option ℕ)} (some (some v)) (some (some u)) = rw (p, read_value) at e in
        let s : v ≡ u = cc in
        omega (arith, h, s)
    go false true p q =
        let z : ◌≡◌ {A = Option (Option ℕ)} (some none) (some (some u)) = rw (p, q, read_value) at e in
        absurd (let k : ◌≡◌ {A = ℕ} 0 1 = cc in omega arith)
    go false false p q =
        let z : ◌≡◌ {A = Option (Option ℕ)} none (some (some u)) = rw (p, q, read_value) at e in
        absurd (let k : ◌≡◌ {A = ℕ} 0 1 = cc in omega arith)

values-fit : (ws : List ℕ) (vs : List (Option ℕ)) → Words ws → read_values ws ≡ some vs → All ValueFits vs
unfolding read_values
values-fit [] vs a e = subst (All ValueFits) (some-injective [] vs e) tt
values-fit (w ∷ []) vs a e = absurd (none-ne-some vs e)
values-fit (w ∷ v ∷ ws) vs a e =
    let n = read_next_lem (read_value w v) (read_values ws) vs e in
    subst (All ValueFits) n.4 (value-fits w v n.0 a.1.0 n.2, values-fit ws n.1 a.1.1 n.3)

FormatFits : Format → Type 0
FormatFits format1 = Unit {0}
FormatFits (format2 vs) = All ValueFits vs

format-fits : (ws : List ℕ) (F : Format) → Words ws → read_format ws ≡ some F → FormatFits F
unfolding read_format keep_distinct symbol_part FormatFits
format-fits ws F a e = go (eqb (header ws 0) 2) refl
  where
    part : Words (symbol_part ws)
    part = taken _ (drop 8 ws) (dropped 8 ws a)

    kept : (o : Option (List (Option ℕ))) → read_values (symbol_part ws) ≡ o → keep_distinct o ≡ some F → FormatFits F
    kept none r q = absurd (none-ne-some F q)
    kept (some vs) r q = by_distinct (distinct [] (numbers vs)) refl
      where
        by_distinct : (b : Bool) → distinct [] (numbers vs) ≡ b → FormatFits F
        by_distinct true p = subst FormatFits (some-injective (format2 vs) F (rw (p, keep_distinct) at q)) (values-fit (symbol_part ws) vs part r)
        by_distinct false p = absurd (none-ne-some F (rw (p, keep_distinct) at q))

    go : (b : Bool) → eqb (header ws 0) 2 ≡ b → FormatFits F
    go true p = kept (read_values (symbol_part ws)) refl (rw (p, read_format) at e)
    go false p = subst FormatFits (some-injective format1 F (rw (p, read_format) at e)) tt

-- The words of a column.
element-fits : (vs : List (Option ℕ)) (f w : ℕ) → All ValueFits vs → flatten (get_elem? vs f) ≡ some w → w < 65536
unfolding flatten ValueFits
element-fits [] zero w a e = absurd (none-ne-some w e)
element-fits [] (suc f) w a e = absurd (none-ne-some w e)
element-fits (none ∷ vs) zero w a e = absurd (none-ne-some w e)
element-fits (some v ∷ vs) zero w a e = subst (λ x. x < 65536) (some-injective v w e) a.0
element-fits (v ∷ vs) (suc f) w a e = element-fits vs f w a.1 e

module _ (F : Format) (h : FormatFits F) where
  number-fits : (G : Format) → FormatFits G → (f w : ℕ) → number_word G f ≡ some w → w < 65536
  unfolding number_word FormatFits
  number-fits format1 k f w e = absurd (none-ne-some w e)
  number-fits (format2 vs) k f w e = element-fits vs f w k e

  entry-fits : (place : ℕ) (ts : Terms) (w : ℕ) → entry_word F place ts ≡ some w → w < 65536
  unfolding entry_word term_word
  entry-fits place nil w e = absurd (none-ne-some w e)
  entry-fits zero (cons (var v) ts) w e = absurd (none-ne-some w e)
  entry-fits zero (cons (app f us) ts) w e = number-fits F h f w e
  entry-fits (suc place) (cons t ts) w e = entry-fits place ts w e

  column-fits : (place : ℕ) (gs : List Goal) (us : List ℕ) → column_words F place gs ≡ some us → Words us
  unfolding column_words read_all
  column-fits place [] us e = subst Words (some-injective [] us e) tt
  column-fits place (g ∷ gs) us e =
      let n = read_next_lem (entry_word F place g.answer_terms) (column_words F place gs) us e in
      subst Words n.4 (entry-fits place g.answer_terms n.0 n.2, column-fits place gs n.1 n.3)

total-within : (ws : List ℕ) → Words ws → Within (total ws) (length ws)
unfolding total
total-within [] a = record { above = omega (arith, ints); below = omega (arith, ints) }
total-within (w ∷ ws) a =
    let r = within-more (total ws) (length ws) w a.0 (total-within ws a.1) in
    let above = r.above in
    let below = r.below in
    record { above = omega (arith, ints); below = omega (arith, ints) }

sum-within : (ws : List ℕ) (d : Deck) (place : ℕ) (gs : List Goal) (us : List ℕ) → Words ws → open_deck ws ≡ accepted d → column_words d.format place gs ≡ some us → Within (total us) (length us)
sum-within ws d place gs us a o e = total-within us (column-fits d.format (format-fits ws d.format a (steps-open ws d o).format) place gs us e)

-- The sum over a deck of words of 16 bits.
pub column-within : {ws list : List ℕ} {n terms place : ℕ} {m : Mean} → Words ws → ColumnSays ws list n terms place m → Within m.sum n
column-within {ws} {place = place} {m = m} w s =
    subst (λ n. Within m.sum n) s.many (subst (λ z. Within z (length s.words)) (sym s.sums) (sum-within ws s.deck place s.answers s.words w s.opens s.entries))
