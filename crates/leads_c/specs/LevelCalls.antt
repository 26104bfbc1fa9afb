-- What the call for a deck's levels promises: the public call's contract, and the number that it leaves behind the pointer.
use Rattle.std.specs.Prelude.{ℕ, suc, ◌≡◌, List, Option, Some, None, Result, Ok, Err}
use Rattle.rules.specs.Refusals.{refusal_number}
use Rattle.deck.specs.declared.Refusal.{Refusal}
use Rattle.deck.specs.Answers.{refusal_for}
use Rattle.ranks.specs.Answers.{Answers}

-- 0 where there are levels, or one more than the predicate that is named.
abbrev pub circular_number : Option ℕ → ℕ
circular_number None = 0
circular_number (Some p) = suc p

-- A refusal returns its number and leaves the number as it was; else 0 is returned.
abbrev pub TellsLevelNumber : Result (Option ℕ) Refusal → ℕ → ℕ → ℕ → Type 0
TellsLevelNumber (Err why) before r after = (r ≡ refusal_number (refusal_for why)) × (after ≡ before)
TellsLevelNumber (Ok named) before r after = (r ≡ 0) × (after ≡ circular_number named)

pub record LevelsCalled (deck list : List ℕ) (before r : ℕ) (list_after : List ℕ) (after : ℕ) : Type 0 where
  pub result : Result (Option ℕ) Refusal
  pub answers : Answers deck result list list_after
  pub tells : TellsLevelNumber result before r after
