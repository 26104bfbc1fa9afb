-- Goals that stand one after another, and counting them.
use Prim.Native.Nat.{ℕ, ◌+◌, ◌*◌, ◌%◌, ◌≤◌, ◌<◌}
use mathlib.Core.Path.{◌≡◌, sym, ◌∙◌, ap}
use mathlib.Core.List.{List, [], ◌∷◌}
use native.Mathlib.Omega.{arith}
use lib.ListN.{length, get_or, drop, length-append}
use lib.Seq.{drop_at}
use Rattle.rules.specs.Syntax.{Symbol}
use Rattle.rules.specs.Goals.{Marked, mark_number, goal_words, write_goal, write_goals}
use Rattle.rules.specs.WellFormed.{All, WfMarked}
use Rattle.rules.proofs.GoalLaws.{goal-length}
use Rattle.top_level.specs.Top.{Written}
use Rattle.goals.proofs.HeldLaws.{cells-length}

-- n of the goals ms have been counted, and the others stand in the words that are left.
pub record Passed (S : List Symbol) (rest : List ℕ) (n : ℕ) (ms : List Marked) : Type 0 where
  pub left : List Marked
  pub formed : All (WfMarked S) left
  pub are : rest ≡ write_goals left
  pub count : n + length left ≡ length ms

pub passed_none : {S : List Symbol} {words : List ℕ} {ms : List Marked} → Written S words ms → Passed S words 0 ms
passed_none {ms = ms} h = record { left = ms; formed = h.well_formed; are = h.are; count = omega arith }

-- One more of them, of m words.
pub record Further (S : List Symbol) (rest : List ℕ) (n m : ℕ) (ms : List Marked) : Type 0 where
  pub least : 2 ≤ m
  pub inside : m ≤ length rest
  pub passed : Passed S (drop m rest) (n + 1) ms

passed-one : {S : List Symbol} (rest : List ℕ) (n m : ℕ) (ms : List Marked) (k : Marked) (ks : List Marked) → All (WfMarked S) (k ∷ ks)
    → rest ≡ write_goals (k ∷ ks) → n + length (k ∷ ks) ≡ length ms → m ≡ get_or rest 0 0 % 4096 → Further S rest n m ms
unfolding write_goals write_goal
passed-one rest n m ms k ks w e c q =
    let first : get_or rest 0 0 ≡ goal_words k.goal + 4096 * mark_number k.mark = ap (λ (r : List ℕ). get_or r 0 0) e in
    let short = w.0.short in
    let size : m ≡ goal_words k.goal = omega arith in
    let l = goal-length k in
    record {
      least = omega (arith, cells-length k.goal);
      inside = omega (arith, ap length e, length-append (write_goal k) (write_goals ks));
      passed = record {
        left = ks;
        formed = w.1;
        are = ap (drop m) e ∙ drop_at (write_goal k) (write_goals ks) m (l ∙ sym size);
        count = omega arith;
      };
    }

pub passed-more : {S : List Symbol} {rest : List ℕ} {n : ℕ} {ms : List Marked} (m : ℕ) → Passed S rest n ms → 0 < length rest → m ≡ get_or rest 0 0 % 4096
    → Further S rest n m ms
unfolding write_goals
passed-more {S} {rest} {n} {ms} m h l q = go h.left h.formed h.are h.count
  where
    go : (ks : List Marked) → All (WfMarked S) ks → rest ≡ write_goals ks → n + length ks ≡ length ms → Further S rest n m ms
    go [] w e c = absurd (omega (arith, ap length e))
    go (k ∷ ks) w e c = passed-one rest n m ms k ks w e c q

pub passed-all : {S : List Symbol} {rest : List ℕ} {n : ℕ} {ms : List Marked} → Passed S rest n ms → length rest ≤ 0 → n ≡ length ms
unfolding write_goals write_goal
passed-all {rest = rest} {n} {ms} h l = go h.left h.are h.count
  where
    go : (ks : List Marked) → rest ≡ write_goals ks → n + length ks ≡ length ms → n ≡ length ms
    go [] e c = omega arith
    go (k ∷ ks) e c = absurd (omega (arith, ap length e))
