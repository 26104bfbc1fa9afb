-- `entry`: the cells are in order, and each step goes past a term.
use Prim.Native.Nat.{ℕ, suc, ◌+◌, ◌≤◌, ◌<◌}
use mathlib.Core.Path.{◌≡◌, sym, ◌∙◌, ap, subst}
use mathlib.Core.List.{List}
use native.Mathlib.Omega.{arith}
use lib.ListN.{length}
use Rattle.rules.specs.Terms.{Terms, count}
use Rattle.matching.specs.Taking.{drop_t}
use Rattle.matching.specs.Cells.{from}
use Rattle.matching.proofs.CellLaws.{from-inside}
use Rattle.deck.specs.Pairs.{known_word}
use Rattle.column.specs.Entries.{EntryAt}
use Rattle.column.proofs.EntryLaws.{drop_count, drop_next, entry-formed, entry-reads, entry-word}
use Rattle.column.proofs.entries.entry.Goals as goal
use Rattle.column.proofs.entries.entry.Goals.{In-loop-i, After-loop-i}

pub loop-i-init : goal.loop-i-init
loop-i-init c = λ ts e. entry-reads e

-- The terms that there are, over the words that the code has.
given : (c : In-loop-i) → EntryAt c.symbols-symbols.result.now c.args.cells.now c.requires.1 c.args.place
given c = subst (λ ar. EntryAt ar c.args.cells.now c.requires.1 c.args.place) (sym c.symbols-symbols.ensures) c.requires.3

there : (ar cells : List ℕ) (ts : Terms) (at i place : ℕ) → EntryAt ar cells ts place → from ar cells at ≡ drop_t i ts → i ≤ place → at < length cells
there ar cells ts at i place e q h = from-inside ar cells at (omega (arith, ap count q, drop_count i ts, e.inside, h))

pub invariant_of-terms : goal.invariant_of-terms
invariant_of-terms c = record { formed = entry-formed (given (goal.at.invariant_of-terms c).In-loop-i) }

pub skip-at-requires : goal.skip-at-requires
skip-at-requires c =
    let e = given (goal.at.skip-at-requires c).In-loop-i in
    there _ _ c.requires.1 c.loop-i.at c.loop-i._i c.args.place e (c.loop-i.invariant c.requires.1 e) (omega (arith, c.loop-i-test.true))

pub loop-i-preserved : goal.loop-i-preserved
loop-i-preserved c = λ ts e.
    let next : suc c.loop-i._i ≡ c.loop-i._i + 1 = omega arith in
    c.skip-at.ensures.1 ∙ ap (drop_t 1) (c.loop-i.invariant ts e) ∙ drop_next c.loop-i._i ts ∙ ap (λ k. drop_t k ts) next

within : (c : After-loop-i) → (c.loop-i.at < length c.args.cells.now) × (length c.args.cells.now < 65536)
within c =
    let e = subst (λ ar. EntryAt ar c.args.cells.now c.requires.1 c.args.place) (sym c.symbols-symbols.ensures) c.requires.3 in
    (there _ _ c.requires.1 c.loop-i.at c.loop-i._i c.args.place e (c.loop-i.invariant c.requires.1 e) (omega arith), e.short)

pub bounds-cells-at : goal.bounds-cells-at
bounds-cells-at c = (within (goal.at.bounds-cells-at c).After-loop-i).0

pub offset_bounds-cells-at : goal.offset_bounds-cells-at
offset_bounds-cells-at c = let h = within (goal.at.offset_bounds-cells-at c).After-loop-i in omega (arith, h.0, h.1)

pub returns : goal.returns
returns c = λ d ts opens entry.
    let e = subst (λ ar. EntryAt ar c.args.cells.now ts c.args.place) (sym c.symbols-symbols.ensures) entry in
    let i : c.loop-i._i ≡ c.args.place = omega arith in
    let q = c.loop-i.invariant ts e in
    let w = entry-word e d.format c.loop-i.at (there _ _ ts c.loop-i.at c.loop-i._i c.args.place e q (omega arith)) (q ∙ ap (λ k. drop_t k ts) i) in
    c.word.ensures d w.0 opens ∙ ap known_word (sym w.1)
