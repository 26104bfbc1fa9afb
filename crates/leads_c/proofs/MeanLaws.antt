-- The call from C for a column's mean, from what the public call promises.
use Prim.Native.Nat.{ℕ}
use mathlib.Core.Path.{◌≡◌, refl, ◌∙◌, subst}
use Rattle.std.specs.Prelude.{Result, Ok, Err}
use Rattle.rules.specs.Refusals.{refusal_number, Checked, refused, accepted}
use Rattle.rules.specs.Column as rules
use Rattle.deck.specs.Answers.{refusal_for}
use Rattle.deck.specs.declared.Refusal.{Refusal}
use Rattle.means.specs.declared.Mean.{Mean}
use Rattle.means.specs.Means.{as_mean}
use Rattle.column.specs.Results.{Answers}
use Rattle.leads_c.specs.MeanCalls.{TellsMean}

module _ (c : Checked rules.Mean) (r : Result Mean Refusal) (a : Answers c r) (before : rules.Mean) where
  pub mean-refused : (why : Refusal) (n : ℕ) → r ≡ Err why → n ≡ refusal_number (refusal_for why) → TellsMean c before n before
  mean-refused why n e f = go c (subst (Answers c) e a)
    where
      go : (o : Checked rules.Mean) → Answers o (Err why) → TellsMean o before n before
      go (refused k) q = (f ∙ q, refl)
      go (accepted m) q = absurd q

  pub mean-done : (m : Mean) → r ≡ Ok m → TellsMean c before 0 (as_mean m)
  mean-done m e = go c (subst (Answers c) e a)
    where
      go : (o : Checked rules.Mean) → Answers o (Ok m) → TellsMean o before 0 (as_mean m)
      go (refused k) q = absurd q
      go (accepted x) q = (refl, q)
