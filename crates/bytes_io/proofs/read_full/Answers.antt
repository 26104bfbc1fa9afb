-- A read adds what it took after what was taken before.
use Rattle.std.proofs.Common.{◌≡◌, ℕ, ◌+◌, ◌-◌, ◌≤◌, List, [], ◌++◌, append-nil, rules, arith, length, take, slice_range, sym, ap, ◌∙◌, subst, le_refl, drop_at, length-take-le}
use Rattle.std.proofs.lemmas.Slice.{take-put_mid_below}
use Rattle.std.specs.Io.KnownBytes.{Consumes}
use Rattle.std.proofs.KnownBytes.{Consumes-nil, Consumes-trans, Consumes-kept}
use borrow.Rule.Slice.PartMut.{put_mid, post_of}
use lib.Seq.{take-add, take-append-le}
use Rattle.bytes_io.proofs.read_full.Goals as goal

take_split : (a b : ℕ) (old new : List ℕ) → a ≤ b → take a new ≡ take a old → take a old ++ slice_range new a b ≡ take b new
take_split a b old new h front =
    let same : a + (b - a) ≡ b = omega arith in
    ap (λ l. l ++ slice_range new a b) (sym front) ∙ sym (take-add a (b - a) new) ∙ ap (λ n. take n new) same

slice_range-put_mid : (a k n : ℕ) (xs ys : List ℕ) → a ≤ length xs → n ≤ length ys → slice_range (put_mid a k xs ys) a (a + n) ≡ take n ys
slice_range-put_mid a k n xs ys within fits =
    let same : (a + n) - a ≡ n = omega arith in
    let after = post_of a k xs in
    ap (take ((a + n) - a)) (drop_at (take a xs) (ys ++ after) a (length-take-le a xs within)) ∙ ap (λ m. take m (ys ++ after)) same ∙ take-append-le n ys after fits

pub loop-done-init : goal.loop-done-init
loop-done-init g c = (search rules, Consumes-nil _)

pub loop-done-preserved : goal.loop-done-preserved
loop-done-preserved g c =
    let from = c.loop-done.done in
    let room = length c.loop-done.bytes - from in
    let within = c.loop-done.invariant.0 in
    let part = slice_range-put_mid from room c.in-Ok.n c.loop-done.bytes c.read.new.buf within c.in-Ok.ensures.bound.0 in
    let joined = take_split from (from + c.in-Ok.n) c.loop-done.bytes (put_mid from room c.loop-done.bytes c.read.new.buf) (omega arith) (take-put_mid_below _ _ _ _ _ (le_refl _) within) in
    (search rules, subst (Consumes _ _) (ap (λ l. take from c.loop-done.bytes ++ l) (sym part) ∙ joined) (Consumes-trans _ _ _ _ _ c.loop-done.invariant.1 c.in-Ok.ensures.bytes.0))

pub returns-in-Ok-eq0-clause-taken : goal.returns-in-Ok-eq0-clause-taken
returns-in-Ok-eq0-clause-taken g c =
    let before = take c.loop-done.done c.loop-done.bytes in
    let none : take c.in-Ok-eq0.field-0 c.read.new.buf ≡ [] = ap (λ n. take n c.read.new.buf) c.in-Ok-eq0.field-0-test in
    let all = Consumes-trans _ _ _ before _ c.loop-done.invariant.1 c.in-Ok-eq0.ensures.bytes.0 in
    let same = ap (λ l. before ++ l) none ∙ append-nil before ∙ sym (take-put_mid_below _ _ _ _ _ (le_refl _) c.loop-done.invariant.0) in
    subst (Consumes _ _) same all

pub returns-in-Err-clause-taken : goal.returns-in-Err-clause-taken
returns-in-Err-clause-taken g c =
    subst (Consumes _ _) (sym (take-put_mid_below _ _ _ _ _ (le_refl _) c.loop-done.invariant.0)) (Consumes-kept _ _ _ _ c.loop-done.invariant.1 c.in-Err.ensures.bytes)
