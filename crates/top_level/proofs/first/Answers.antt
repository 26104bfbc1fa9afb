-- `first`: the goal's words are written in order and then reversed.
use Prim.Native.Nat.{ℕ, ◌+◌, ◌-◌, ◌≤◌}
use mathlib.Core.Path.{◌≡◌, refl, sym, ◌∙◌, ap}
use mathlib.Core.List.{List}
use native.Mathlib.Omega.{arith}
use lib.ListN.{length, set, length-set}
use lib.Seq.{sets, length-sets, length-take-le}
use borrow.Rule.Slice.PartMut.{put_mid}
use Rattle.words.proofs.Reverse.{rev, front_reversed}
use Rattle.words.proofs.Sets.{put_sets}
use Rattle.top_level.proofs.FirstLaws.{numbers, numbers_more, query-cells, first_short, first-held}
use Rattle.top_level.proofs.first.Goals as goal
use Rattle.top_level.proofs.first.Goals.{After-variables-n, At-loop-i, After-copy}

-- Of the query that is known to be there.
short : (c : goal.After-variables-n) → 2 + c.variables-n.result + length c.args.query.now ≤ 1024
short c =
    first_short c.requires.query.queries c.variables-n.result _ (c.variables-n.ensures c.requires.query.symbol_words 0 c.requires.query.symbols _ (query-cells c.requires.query.queries)) refl

same : (c : goal.At-loop-i) → length c.loop-i.store ≡ length c.args.store.now
same c = ap length c.loop-i.invariant ∙ simp (length-sets, length-set)

pub overflow_add-held : goal.overflow_add-held
overflow_add-held c = omega (arith, short c)

pub overflow_add-held-2 : goal.overflow_add-held-2
overflow_add-held-2 c = omega (arith, short c)

pub overflow_cast-store : goal.overflow_cast-store
overflow_cast-store c = omega (arith, short c)

pub overflow_cast-store-2 : goal.overflow_cast-store-2
overflow_cast-store-2 c = omega (arith, short c)

pub loop-i-init : goal.loop-i-init
loop-i-init c = refl

pub overflow_add-store : goal.overflow_add-store
overflow_add-store c = omega (arith, short (goal.at.overflow_add-store c).After-variables-n)

pub overflow_cast-store-in-loop-i : goal.overflow_cast-store-in-loop-i
overflow_cast-store-in-loop-i c = omega (arith, short (goal.at.overflow_cast-store-in-loop-i c).After-variables-n)

pub overflow_add-store-in-loop-i : goal.overflow_add-store-in-loop-i
overflow_add-store-in-loop-i c = omega (arith, short (goal.at.overflow_add-store-in-loop-i c).After-variables-n)

pub offset_bounds-store-i : goal.offset_bounds-store-i
offset_bounds-store-i c = omega (arith, short (goal.at.offset_bounds-store-i c).After-variables-n)

pub bounds-store-i : goal.bounds-store-i
bounds-store-i c = omega (arith, short (goal.at.bounds-store-i c).After-variables-n, same (goal.at.bounds-store-i c).At-loop-i)

pub loop-i-preserved : goal.loop-i-preserved
loop-i-preserved c =
    ap (λ (s : List ℕ). set s (2 + c.loop-i.i) (32768 + c.loop-i.i)) c.loop-i.invariant ∙ numbers_more _ c.loop-i.i

pub overflow_add-n : goal.overflow_add-n
overflow_add-n c = omega (arith, short (goal.at.overflow_add-n c).After-variables-n)

pub offset_bounds-store-n : goal.offset_bounds-store-n
offset_bounds-store-n c = omega (arith, short (goal.at.offset_bounds-store-n c).After-variables-n)

pub slice_bounds-copy-end : goal.slice_bounds-copy-end
slice_bounds-copy-end c = omega (arith, short (goal.at.slice_bounds-copy-end c).After-variables-n, same (goal.at.slice_bounds-copy-end c).At-loop-i)

-- The query is copied behind the variables.
copied : (c : goal.After-copy) →
    let n = c.variables-n.result in
    let held = 2 + n + length c.args.query.now in
    held ≤ length c.loop-i.store
    → put_mid (2 + n) (held - (2 + n)) c.loop-i.store c.copy.new.to ≡ sets c.loop-i.store (2 + n) c.args.query.now
copied c h =
    let n = c.variables-n.result in
    let held = 2 + n + length c.args.query.now in
    rw c.copy.ensures (put_sets c.loop-i.store c.args.query.now (2 + n) (held - (2 + n)) (omega arith) (omega arith))

pub slice_bounds-reverse-end : goal.slice_bounds-reverse-end
slice_bounds-reverse-end c =
    let at = goal.at.slice_bounds-reverse-end c in
    let h : 2 + c.variables-n.result + length c.args.query.now ≤ length c.loop-i.store = omega (arith, short at.After-variables-n, same at.At-loop-i) in
    omega (arith, h, ap length (copied at.After-copy h), length-sets c.loop-i.store (2 + c.variables-n.result) c.args.query.now)

pub slice_bounds-reverse-end-2 : goal.slice_bounds-reverse-end-2
slice_bounds-reverse-end-2 c =
    let at = goal.at.slice_bounds-reverse-end-2 c in
    let h : 2 + c.variables-n.result + length c.args.query.now ≤ length c.loop-i.store = omega (arith, short at.After-variables-n, same at.At-loop-i) in
    sym (length-take-le _ _ (omega (arith, h, ap length (copied at.After-copy h), length-sets c.loop-i.store (2 + c.variables-n.result) c.args.query.now)))

pub returns : goal.returns
returns c =
    λ ar S q h.
    let s = c.args.store.now in
    let words = c.args.query.now in
    let n = c.variables-n.result in
    let held = 2 + n + length words in
    let l = c.loop-i in
    let all : l.i ≡ n = omega (arith, c.loop-i-test.false) in
    let at = goal.at.returns c in
    first-held h n held (c.variables-n.ensures ar 0 S _ (query-cells h)) refl s _ c.requires.room
    (front_reversed held _ c.reverse.new.self c.reverse.ensures.after
    ∙ ap (rev 0 held)
    (copied at.After-copy (omega (arith, short at.After-variables-n, same at.At-loop-i))
    ∙ ap (λ (r : List ℕ). sets r (2 + n) words) (l.invariant ∙ ap (λ (k : ℕ). sets (set (set s 0 held) 1 n) 2 (numbers k)) all)))
