-- Writing where clauses start, and their cells, in one walk.
use Prim.Native.Nat.{ℕ, suc, ◌+◌, ◌≤◌, ◌<◌}
use mathlib.Core.Path.{◌≡◌, refl, ap, sym, ◌∙◌}
use mathlib.Core.List.{List, ◌∷◌, map}
use native.Mathlib.Omega.{arith}
use lib.ListN.{length, set, length-set}
use lib.Seq.{sets}
use Rattle.std.specs.Prelude.{Some, None}
use Rattle.text_rules.specs.TextWords.{Entry, starts_from}
use Rattle.encoding.specs.declared.walk.Entry.{Entry as Given}
use Rattle.encoding.specs.declared.walk.Entry.TheVariants as given
use Rattle.encoding.specs.declared.walk.Entries.{Entries}
use Rattle.encoding.specs.declared.sizes.Sizes.{Sizes}
use Rattle.encoding.specs.Walk.{entries_left, IsEntry, Onward, heads, start_put}
use Rattle.encoding.proofs.WalkLaws.{starts-more, Walked, walk-none, walk-on}

-- The start of an entry, and the starts after it.
put-more : (g : Given) (e : Entry) → IsEntry g e → (es : List Entry) (l : List ℕ) (i k : ℕ) → sets (start_put l i k g) (i + heads g) (starts_from (k + 1) es) ≡ sets l i (starts_from k (e ∷ es))
unfolding starts_from
put-more g e w es l i k = let one : k + 1 ≡ suc k = omega arith in rw one (go g w)
  where
    same : i + 0 ≡ i
    same = omega arith

    next : i + 1 ≡ suc i
    next = omega arith

    go : (g : Given) → IsEntry g e → sets (start_put l i k g) (i + heads g) (starts_from (suc k) es) ≡ sets l i (starts_from k (e ∷ es))
    go (given.Variable v) w = rw (w.1, same) refl
    go (given.Head b) w = rw (w.2, next) refl
    go (given.Negated b) w = rw (w.2, same) refl
    go (given.Symbol b) w = rw (w.2, same) refl

pub put-length : (l : List ℕ) (i k : ℕ) (g : Given) → length (start_put l i k g) ≡ length l
put-length l i k (given.Variable v) = refl
put-length l i k (given.Head b) = length-set l i k
put-length l i k (given.Negated b) = refl
put-length l i k (given.Symbol b) = refl

-- The clauses are written as far as a place.
pub record Writing (es : List Entry) (f : Entry → ℕ) (starts₀ cells₀ : List ℕ) (w : Entries) (s : Sizes) (starts cells : List ℕ) : Type 0 where
  pub walked : Walked es w s
  pub starts_length : length starts ≡ length starts₀
  pub cells_length : length cells ≡ length cells₀
  pub begun : sets starts s.clauses (starts_from s.cells (entries_left w)) ≡ sets starts₀ 0 (starts_from 0 es)
  pub put : sets cells s.cells (map f (entries_left w)) ≡ sets cells₀ 0 (map f es)

pub writing-none :
    (es : List Entry) (f : Entry → ℕ) (starts cells : List ℕ) (w : Entries) → entries_left w ≡ es → Writing es f starts cells w (record { clauses = 0; cells = 0 }) starts cells
writing-none es f starts cells w e =
    record { walked = walk-none es w e; starts_length = refl; cells_length = refl; begun = ap (λ es. sets starts 0 (starts_from 0 es)) e; put = ap (λ es. sets cells 0 (map f es)) e }

module _ {es : List Entry} {f : Entry → ℕ} {starts₀ cells₀ : List ℕ} {w : Entries} {s : Sizes} {starts cells : List ℕ} (d : Writing es f starts₀ cells₀ w s starts cells) where
  pub writing-end : (v : Entries) → Onward None w v → (starts ≡ sets starts₀ 0 (starts_from 0 es)) × (cells ≡ sets cells₀ 0 (map f es))
  unfolding starts_from
  writing-end v o =
      (ap (λ es. sets starts s.clauses (starts_from s.cells es)) (sym o) ∙ d.begun, ap (λ es. sets cells s.cells (map f es)) (sym o) ∙ d.put)

  module _ (v : Entries) (g : Given) (o : Onward (Some g) w v) where
    pub start-room : length (starts_from 0 es) ≤ length starts₀ → heads g ≡ 1 → s.clauses < length starts
    start-room l h =
        omega (arith, l, h, d.starts_length, d.walked.clauses, ap (λ es. length (starts_from s.cells es)) o.0.2, starts-more g o.0.0 o.0.1 (entries_left v) s.cells 0)

    pub cell-room : length es ≤ length cells₀ → s.cells < length cells
    cell-room l = omega (arith, l, d.cells_length, d.walked.cells, ap length o.0.2)

    pub start-few : length es < 65536 → s.cells < 65536
    start-few l = omega (arith, l, d.walked.cells)

    pub writing-on :
        (c : ℕ) → c ≡ f o.0.0 → (q : Sizes) → (q.clauses ≡ s.clauses + heads g) × (q.cells ≡ s.cells + 1)
        → Writing es f starts₀ cells₀ v q (start_put starts s.clauses s.cells g) (set cells s.cells c)
    writing-on c k q e =
        let one : s.cells + 1 ≡ suc s.cells = omega arith in
        record {
          walked = walk-on es w v s d.walked g o q e;
          starts_length = put-length starts s.clauses s.cells g ∙ d.starts_length;
          cells_length = length-set cells s.cells c ∙ d.cells_length;
          begun = rw (e.0, e.1)
              (put-more g o.0.0 o.0.1 (entries_left v) starts s.clauses s.cells ∙ ap (λ es. sets starts s.clauses (starts_from s.cells es)) (sym o.0.2) ∙ d.begun);
          put = rw (e.1, one, k) (ap (λ es. sets cells s.cells (map f es)) (sym o.0.2) ∙ d.put);
        }
