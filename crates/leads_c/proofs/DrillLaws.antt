-- The call from C that lists drill terms, from what the public call promises.
use Prim.Native.Nat.{ℕ}
use mathlib.Core.Path.{◌≡◌, refl, ◌∙◌, subst}
use mathlib.Core.List.{List}
use lib.ListN.{length}
use Rattle.rules.specs.Refusals.{Checked, refused, accepted}
use Rattle.rules.specs.Drill.{drill, list_after}
use Rattle.std.specs.Prelude.{Result, Ok, Err}
use Rattle.rules.specs.Refusals.{refusal_number}
use Rattle.deck.specs.Answers.{refusal_for}
use Rattle.deck.specs.declared.Refusal.{Refusal}
use Rattle.drill.specs.Answers.{Answers}
use Rattle.leads_c.specs.DrillCalls.{TellsTerms, DrillCalled}

module _ (deck : List ℕ) (n : ℕ) (given list exit : List ℕ) (r : Result ℕ Refusal) (a : Answers (drill deck n given (length list)) r) (l : exit ≡ list_after (drill deck n given (length list)) list) (before : ℕ) where
  answers : (x : Result ℕ Refusal) → r ≡ x → Answers (drill deck n given (length list)) x
  answers x e = subst (λ (y : Result ℕ Refusal). Answers (drill deck n given (length list)) y) e a

  pub drill-refused : (why : Refusal) (m : ℕ) → r ≡ Err why → m ≡ refusal_number (refusal_for why) → DrillCalled deck n given list before m exit before
  drill-refused why m e f = record { tells = go (drill deck n given (length list)) (answers (Err why) e); leaves = l }
    where
      go : (o : Checked (List (List ℕ))) → Answers o (Err why) → TellsTerms o before m before
      go (refused k) q = (f ∙ q, refl)
      go (accepted terms) q = absurd q

  pub drill-done : (terms : ℕ) → r ≡ Ok terms → DrillCalled deck n given list before 0 exit terms
  drill-done terms e = record { tells = go (drill deck n given (length list)) (answers (Ok terms) e); leaves = l }
    where
      go : (o : Checked (List (List ℕ))) → Answers o (Ok terms) → TellsTerms o before 0 terms
      go (refused k) q = absurd q
      go (accepted ts) q = (refl, q)
