-- `mark` meets its contract. Assumes nothing.
use Rattle.std.proofs.Common.{◌≡◌, ℕ, ◌+◌, ◌*◌, ◌%◌, ◌^◌, ◌<◌, List, length, get_or, set, refl, ap, ◌∙◌, arith, length-set, get_or-set_same, get_or-set_other}
use Rattle.std.specs.Prelude.{bit_or}
use native.Mathlib.Decide.{ℕ_discrete}
use Rattle.clauses.proofs.rows.mark.Invariants.{Setting}
use Rattle.deck.proofs.BitLaws.{shifted-one}
use Rattle.clauses.proofs.RowLaws.{marked-one, marked-each}
use Rattle.clauses.proofs.rows.mark.Goals as goal

pub returns-then-cell-lt-VARIABLE : goal.returns-then-cell-lt-VARIABLE
returns-then-cell-lt-VARIABLE c =
    let a = c.args in
    marked-one a.block.now a.j a.cell c.from.result _ c.requires.rows c.if-cell-lt-VARIABLE.true c.from.ensures (shifted-one a.j c.requires.j_in)

-- One word more.
go : (items : List ℕ) (i bit : ℕ) (block : List ℕ) → Setting block bit i items → (r : ℕ) → r < i + 1 → i < length items → Dec (r ≡ i)
    → get_or (set items i (bit_or (get_or items i 0) bit)) r 0 ≡ bit_or (get_or block r 0) bit
go items i bit block x r h l (yes z) =
    rw z (get_or-set_same items i (bit_or (get_or items i 0) bit) 0 l ∙ ap (λ n. bit_or n bit) (x.kept i (omega arith)))
go items i bit block x r h l (no z) = get_or-set_other items i r (bit_or (get_or items i 0) bit) 0 z ∙ x.set r (omega arith)

pub loop-word-init : goal.loop-word-init
loop-word-init c = record { size = c.requires.rows; set = λ r h. absurd (omega arith); kept = λ r h. refl }

pub loop-word-preserved : goal.loop-word-preserved
loop-word-preserved c =
    let l = c.loop-word in
    let x = l.invariant in
    record {
      size = omega (arith, length-set l.word-items l.word-index (bit_or (get_or l.word-items l.word-index 0) (1 * 2 ^ c.args.j % 18446744073709551616)), x.size);
      set = λ r h. go l.word-items l.word-index _ _ x r h (omega arith) (ℕ_discrete r l.word-index);
      kept = λ r h. get_or-set_other l.word-items l.word-index r _ 0 (λ z. omega arith) ∙ x.kept r (omega arith);
    }

pub returns : goal.returns
returns c =
    let a = c.args in
    let l = c.loop-word in
    marked-each a.block.now a.j a.cell _ l.word-items c.if-cell-lt-VARIABLE.false (shifted-one a.j c.requires.j_in) (λ r h. l.invariant.set r (omega arith))
