-- `begins_otherwise` meets its contract. Assumes nothing.
use Rattle.std.proofs.Common.{ℕ, ◌≡◌, ◌<◌, true, false, refl, sym, ap, ◌∙◌, ◌&&◌, get_or, nat_eq, ltb, Option, Some, None, MatchOption, rules, tests}
use mathlib.Core.Bool.{Bool, true≢false}
use Rattle.std.proofs.Math.Bool.{not}
use Rattle.rules.specs.Cells.{write_literals}
use Rattle.rules.specs.Decks.{write_clause}
use Rattle.resolvents.proofs.LeadingLaws.{leading-differs}
use Rattle.resolvents.proofs.resolve.begins_otherwise.Goals as goal

-- what the test says where it holds
told : (cell : ℕ) (b : Bool) {Gives : ℕ → Type 0} → ((x : ℕ) → Gives x → b ≡ (ltb cell 32768 && not (nat_eq cell x)))
    → (first : Option ℕ) → MatchOption first (b ≡ false) Gives → b ≡ true → (x : ℕ) × (first ≡ Some x) × (cell < 32768) × (cell ≡ x → ⊥)
told cell b says None e h = absurd (true≢false (sym h ∙ e))
told cell b says (Some x) e h =
    let both : (ltb cell 32768 && not (nat_eq cell x)) ≡ true = sym (says x e) ∙ h in
    (x, refl, search (rules, tests), search (rules, tests))

pub returns-clause-fails : goal.returns-clause-fails
unfolding write_clause
returns-clause-fails c =
    λ h ts c' n e q w.
    let cell = ap (λ cs. get_or cs 1 0) w in
    let k = told (get_or c.args.clause.now 1 0) c.is_some_and.result (λ x g. search (rules, tests)) c.args.first c.is_some_and.ensures h in
    leading-differs ts c'.arguments (write_literals c'.body) k.0 n (sym k.1 ∙ e) q (rw cell at k.2) (λ z. k.3 (cell ∙ z))
