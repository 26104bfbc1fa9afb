-- Open goals, one after another in their words. Assumes nothing.
use Prim.Native.Nat.{ℕ, ◌+◌, ◌-◌, ◌*◌, ◌%◌, ◌≤◌, ◌<◌}
use mathlib.Core.Path.{◌≡◌, refl, ap, ap₂, sym, ◌∙◌}
use mathlib.Core.List.{List, [], ◌∷◌, ◌++◌}
use native.Mathlib.Omega.{arith}
use lib.ListN.{length, get_or, take, drop, length-append, length-drop}
use lib.Seq.{take_at, drop_at, drop-drop, get_or-drop}
use Rattle.rules.specs.Syntax.{Symbol}
use Rattle.rules.specs.Goals.{Marked, mark_number, goal_cells, goal_words, write_goal, write_goals, appearing}
use Rattle.rules.specs.WellFormed.{All, WfMarked}
use Rattle.rules.proofs.GoalLaws.{goal-length}
use Rattle.rules.specs.Rights.{predicates, literals_of}
use Rattle.rights.specs.Named.{named}
use Rattle.rights.specs.Reached.{AreGoals}
use Rattle.rights.proofs.NamedLaws.{goal-names}
use Rattle.rights.proofs.MarkLaws.{appearing-none, appearing-then}
use Rattle.rights.proofs.ReachedLaws.{predicates-join}

-- The goal that words begin with at a place.
module _ (S : List Symbol) (m : Marked) (w : WfMarked S m) (words rest : List ℕ) (at : ℕ) (e : drop at words ≡ write_goal m ++ rest) where
  first-word : get_or words at 0 ≡ goal_words m.goal + 4096 * mark_number m.mark
  unfolding write_goal
  first-word =
      let z : at + 0 ≡ at = omega arith in
      ap (λ i. get_or words i 0) (sym z) ∙ sym (get_or-drop at words 0 0) ∙ ap (λ l. get_or l 0 0) e

  pub goal-size : (get_or words at 0 % 4096 ≡ goal_words m.goal) × (2 ≤ goal_words m.goal) × (at + goal_words m.goal ≤ length words)
  unfolding goal_words
  goal-size =
      let short : goal_words m.goal ≤ 1024 = w.short in
      let l : length (drop at words) ≡ goal_words m.goal + length rest = ap length e ∙ length-append (write_goal m) rest ∙ ap (λ i. i + length rest) (goal-length m) in
      (omega (arith, first-word), omega arith, omega (arith, length-drop at words))

  pub goal-rest : drop (at + goal_words m.goal) words ≡ rest
  goal-rest = sym (drop-drop (goal_words m.goal) at words) ∙ ap (drop (goal_words m.goal)) e ∙ drop_at (write_goal m) rest (goal_words m.goal) (goal-length m)

  pub goal-part : take (at + goal_words m.goal - (at + 2)) (drop (at + 2) words) ≡ goal_cells m.goal
  unfolding write_goal goal_words
  goal-part =
      let z : at + goal_words m.goal - (at + 2) ≡ length (goal_cells m.goal) = omega arith in
      ap₂ take z (sym (drop-drop 2 at words) ∙ ap (drop 2) e) ∙ take_at (goal_cells m.goal) rest (length (goal_cells m.goal)) refl

-- The goals that are left at a place: what their literals name is still to be added.
pub record Left (S : List Symbol) (words : List ℕ) (all : List Marked) (list₀ list : List ℕ) (at : ℕ) : Type 0 where
  pub goals : List Marked
  pub formed : All (WfMarked S) goals
  pub written : drop at words ≡ write_goals goals
  pub listed : appearing list (predicates (literals_of goals)) ≡ appearing list₀ (predicates (literals_of all))

module _ (S : List Symbol) (words : List ℕ) (all : List Marked) (list₀ : List ℕ) where
  pub left-all : AreGoals S words all → Left S words all list₀ list₀ 0
  left-all a = record { goals = all; formed = a.formed; written = a.written; listed = refl }

  -- A goal is left where words are, and it is added.
  pub record NextGoal (list : List ℕ) (at n : ℕ) : Type 0 where
    pub few : 2 ≤ n
    pub inside : at + n ≤ length words
    pub after : (list' : List ℕ) → list' ≡ appearing list (named S (take (at + n - (at + 2)) (drop (at + 2) words))) → Left S words all list₀ list' (at + n)

  pub left-next : (list : List ℕ) (at : ℕ) → Left S words all list₀ list at → at < length words → (n : ℕ) → n ≡ get_or words at 0 % 4096 → NextGoal list at n
  unfolding write_goals
  left-next list at l h n e = go l.goals l.formed l.written l.listed
    where
      go : (goals : List Marked) → All (WfMarked S) goals → drop at words ≡ write_goals goals → appearing list (predicates (literals_of goals)) ≡ appearing list₀ (predicates (literals_of all))
          → NextGoal list at n
      go [] f w q = absurd (omega (arith, ap length w, length-drop at words))
      go (m ∷ ms) f w q =
          let s = goal-size S m f.0 words (write_goals ms) at w in
          let z : n ≡ goal_words m.goal = e ∙ s.0 in
          record {
            few = omega (arith, z, s.1);
            inside = omega (arith, z, s.2);
            after = λ list' r. record {
              goals = ms;
              formed = f.1;
              written = rw z (goal-rest S m f.0 words (write_goals ms) at w);
              listed =
                  let part : named S (take (at + n - (at + 2)) (drop (at + 2) words)) ≡ predicates m.goal.literals =
                  rw z (ap (named S) (goal-part S m f.0 words (write_goals ms) at w) ∙ goal-names S m.goal f.0) in
                  ap (λ x. appearing x (predicates (literals_of ms))) (r ∙ ap (appearing list) part)
                  ∙ appearing-then list (predicates m.goal.literals) (predicates (literals_of ms))
                  ∙ ap (appearing list) (sym (predicates-join m.goal.literals (literals_of ms))) ∙ q;
            };
          }

  pub left-none : (list : List ℕ) (at : ℕ) → Left S words all list₀ list at → length words ≤ at → list ≡ appearing list₀ (predicates (literals_of all))
  unfolding write_goals goal_words
  left-none list at l h = go l.goals l.written l.listed
    where
      go : (goals : List Marked) → drop at words ≡ write_goals goals → appearing list (predicates (literals_of goals)) ≡ appearing list₀ (predicates (literals_of all))
          → list ≡ appearing list₀ (predicates (literals_of all))
      go [] w q = sym (appearing-none list) ∙ q
      go (m ∷ ms) w q = absurd (omega (arith, ap length w, length-drop at words, length-append (write_goal m) (write_goals ms), goal-length m))
