-- The call from C for a deck's levels, from what the public call promises.
use Prim.Native.Nat.{ℕ}
use mathlib.Core.Path.{◌≡◌, refl, subst}
use mathlib.Core.List.{List}
use Rattle.std.specs.Prelude.{Option, Result, Ok, Err}
use Rattle.rules.specs.Refusals.{refusal_number}
use Rattle.deck.specs.Answers.{refusal_for}
use Rattle.deck.specs.declared.Refusal.{Refusal}
use Rattle.ranks.specs.Answers.{Answers}
use Rattle.leads_c.specs.LevelCalls.{circular_number, LevelsCalled}

module _ (deck list list_after : List ℕ) (r : Result (Option ℕ) Refusal) (a : Answers deck r list list_after) (before : ℕ) where
  pub levels-refused : (why : Refusal) (n : ℕ) → r ≡ Err why → n ≡ refusal_number (refusal_for why) → LevelsCalled deck list before n list_after before
  levels-refused why n e f = record { result = Err why; answers = subst (λ (y : Result (Option ℕ) Refusal). Answers deck y list list_after) e a; tells = (f, refl) }

  pub levels-done : (named : Option ℕ) (n : ℕ) → r ≡ Ok named → n ≡ circular_number named → LevelsCalled deck list before 0 list_after n
  levels-done named n e f = record { result = Ok named; answers = subst (λ (y : Result (Option ℕ) Refusal). Answers deck y list list_after) e a; tells = (refl, f) }
