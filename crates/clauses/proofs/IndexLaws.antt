-- The index: the rows of all predicates. Assumes nothing.
use Prim.Native.Nat.{ℕ, suc, ◌+◌, ◌-◌, ◌/◌, ◌≤◌, ◌<◌}
use mathlib.Core.Path.{◌≡◌, refl, ap, sym, ◌∙◌, subst}
use mathlib.Core.List.{List}
use native.Mathlib.Omega.{arith}
use native.Mathlib.Decide.{ℕ_discrete}
use lib.ListN.{length, get_or, take, drop, length-drop}
use borrow.Rule.Slice.PartMut.{put_mid}
use Rattle.std.proofs.lemmas.List.{get_or-drop, get_or-take, length-take}
use Rattle.std.proofs.lemmas.Slice.{between_is, take-put_mid_below, between-put_mid}
use Rattle.rules.specs.Syntax.{Clause}
use Rattle.rules.specs.Resolution.{clauses_about}
use Rattle.signature.specs.Symbols.{arity_at}
use Rattle.clauses.specs.Groups.{before, Grouped, Numbers}
use Rattle.clauses.specs.Rows.{row_words, RowsOf, Unset}
use Rattle.clauses.specs.Index.{rows_at, Rowed, Indexes, Fills}
use Rattle.clauses.specs.declared.by_predicate.Index.{Index}
use Rattle.clauses.proofs.GroupLaws.{before-next, before-all, before-rises}
use Rattle.clauses.proofs.RowLaws.{put-behind}

-- The rows of n clauses stand among half as many words as there are clauses.
pub rows-inside : (b n : ℕ) → 64 < n → b / 2 + row_words n ≤ (b + n) / 2
rows-inside b n h = omega arith

-- A group is a part of the numbers.
module _ (symbols : ℕ) (cs : List Clause) (begins numbers : List ℕ) (r : Grouped symbols cs begins numbers) (few : length cs ≤ 8192) (p : ℕ) (h : p < symbols) where
  pub group-begin : get_or begins p 0 ≡ before p cs
  group-begin = r.begin p (omega arith)

  pub group-end : get_or begins (p + 1) 0 ≡ before p cs + length (clauses_about p cs)
  group-end = let k : p + 1 ≡ suc p = omega arith in rw k (r.begin (suc p) h ∙ before-next p cs)

  pub group-room : before p cs + length (clauses_about p cs) ≤ 8192
  group-room = omega (arith, before-next p cs, before-all (suc p) cs)

  pub group-numbers : (part : List ℕ) → part ≡ take (get_or begins (p + 1) 0 - get_or begins p 0) (drop (get_or begins p 0) numbers) → Numbers p cs part
  group-numbers part e =
      let n = length (clauses_about p cs) in
      let b = before p cs in
      let k : get_or begins (p + 1) 0 - get_or begins p 0 ≡ n = omega (arith, group-begin, group-end) in
      let whole : part ≡ take n (drop b numbers) = e ∙ rw (k, group-begin) refl in
      let size : length part ≡ n = ap length whole ∙ omega (arith, length-take n (drop b numbers), length-drop b numbers, group-room, r.room) in
      record {
        many = size;
        place = λ j l.
            let inside : j < n = omega arith in
            let here : get_or part j 0 ≡ get_or numbers (b + j) 0 = ap (λ xs. get_or xs j 0) whole ∙ get_or-take n (drop b numbers) j 0 inside ∙ get_or-drop b numbers j 0 in
            rw here (r.place p (b + j) h (omega arith) (omega (arith, before-next p cs)));
      }

-- Rows that stand before a part that is written are kept.
rows-kept : (b n a k : ℕ) (rows part : List ℕ) → b / 2 + row_words n ≤ a → a ≤ length rows → rows_at (put_mid a k rows part) b n ≡ rows_at rows b n
rows-kept b n a k rows part h l =
    let i = b / 2 in
    let m : i + row_words n - i ≡ row_words n = omega arith in
    let one : (xs : List ℕ) → take (row_words n) (drop i xs) ≡ drop i (take (i + row_words n) xs) =
    λ (xs : List ℕ). ap (λ j. take j (drop i xs)) (sym m) ∙ between_is xs i (i + row_words n) in
    one (put_mid a k rows part) ∙ ap (drop i) (take-put_mid_below a k rows part (i + row_words n) h l) ∙ sym (one rows)

module _ (symbols : List ℕ) (cs : List Clause) (p : ℕ) (index : Index) (f : Fills symbols cs p index) where
  -- A predicate without rows.
  pub fills-past : (0 < arity_at symbols p → 64 < length (clauses_about p cs) → ⊥) → Fills symbols cs (p + 1) index
  fills-past none = record {
    groups = f.groups;
    rows = λ q l. go q l (ℕ_discrete q p);
    unset = λ w l. f.unset w (omega (arith, before-rises p (p + 1) cs (omega arith)));
  }
    where
      go : (q : ℕ) → q < p + 1 → Dec (q ≡ p) → Rowed symbols cs q index.rows
      go q l (yes z) = rw z (λ a h. absurd (none a h))
      go q l (no z) = f.rows q (omega arith)

  -- A predicate with rows.
  module _ (many : 64 < length (clauses_about p cs)) (room : before p cs + length (clauses_about p cs) ≤ 8192) (long : length index.rows ≡ 4096) (part : List ℕ) (x : RowsOf (clauses_about p cs) part) where
    abbrev at : ℕ
    at = before p cs / 2

    abbrev size : ℕ
    size = row_words (length (clauses_about p cs))

    inside : at + size ≤ length index.rows
    inside = omega (arith, rows-inside (before p cs) (length (clauses_about p cs)) many)

    abbrev pub filled : Index
    filled = record { groups = index.groups; rows = put_mid at size index.rows part }

    pub fills-more : Fills symbols cs (p + 1) filled
    fills-more = record {
      groups = f.groups;
      rows = λ q l. go q l (ℕ_discrete q p);
      unset = λ w l. put-behind at size index.rows part inside x.room w (omega (arith, behind w l)) ∙ f.unset w (omega (arith, behind w l));
    }
      where
        behind : (w : ℕ) → before (p + 1) cs / 2 ≤ w → at + size ≤ w
        behind w l =
            let k : p + 1 ≡ suc p = omega arith in
            omega (arith, rows-inside (before p cs) (length (clauses_about p cs)) many, ap (λ n. before n cs) k, before-next p cs)

        go : (q : ℕ) → q < p + 1 → Dec (q ≡ p) → Rowed symbols cs q filled.rows
        go q l (yes z) = rw z (λ a h. subst (RowsOf (clauses_about p cs)) (sym own) x)
          where
            own : rows_at filled.rows (before p cs) (length (clauses_about p cs)) ≡ part
            own =
                let m : at + size - at ≡ size = omega arith in
                ap (λ j. take j (drop at filled.rows)) (sym m) ∙ between-put_mid at size index.rows part (at + size) (omega (arith, inside)) (omega (arith, x.room))
        go q l (no z) = λ a h.
            let before-here : before q cs / 2 + row_words (length (clauses_about q cs)) ≤ at =
            omega (arith, rows-inside (before q cs) (length (clauses_about q cs)) h, before-next q cs, before-rises (suc q) p cs (omega arith)) in
            subst (RowsOf (clauses_about q cs))
            (sym (rows-kept (before q cs) (length (clauses_about q cs)) at size index.rows part before-here (omega (arith, inside))))
            (f.rows q (omega arith) a h)

  -- Its words before that.
  pub unset-part : 64 < length (clauses_about p cs) → before p cs + length (clauses_about p cs) ≤ 8192 → length index.rows ≡ 4096
      → Unset (take (row_words (length (clauses_about p cs))) (drop (before p cs / 2) index.rows))
  unset-part many room long = record {
    none = λ w l.
        let at = before p cs / 2 in
        let size = row_words (length (clauses_about p cs)) in
        let short : w < size = omega (arith, length-take size (drop at index.rows)) in
        get_or-take size (drop at index.rows) w 0 short ∙ get_or-drop at index.rows w 0 ∙ f.unset (at + w) (omega arith);
  }

pub fills-all : (symbols : List ℕ) (cs : List Clause) (p : ℕ) (index : Index) → length symbols ≤ p → Fills symbols cs p index → Indexes symbols cs index
fills-all symbols cs p index h f = record { groups = f.groups; rows = λ q l. f.rows q (omega arith) }
