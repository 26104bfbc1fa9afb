-- What `filter` keeps, by a test that the closure tells.
use Rattle.std.proofs.Common.{◌≡◌, Bool, true, false, Option, Some, None, Result, Err, MatchOption, ◌⊎◌, inl, inr, refl, sym, ◌∙◌}
use Rattle.std.specs.Bool.{then_some}
use Rattle.std.specs.Option.{ok_or}
use Rattle.std.proofs.lemmas.Option.{none-some, same_Some}

module _ {A : Type 0} {Gives : A → Bool → Type 0} (test : A → Bool) (says : (x : A) (b : Bool) → Gives x b → b ≡ test x) where
  -- None is kept: there was none, or it was refused.
  pub filter-none : (o r : Option A) → MatchOption o (r ≡ None) (λ x. (b : Bool) × Gives x b × (r ≡ then_some b x)) → r ≡ None
      → (o ≡ None) ⊎ ((x : A) × (o ≡ Some x) × (test x ≡ false))
  filter-none None r k e = inl refl
  filter-none (Some x) r (b, gives, k) e = inr (x, refl, go b (says x b gives) (sym e ∙ k))
    where
      go : (b : Bool) → b ≡ test x → None ≡ then_some b x → test x ≡ false
      go false q s = sym q
      go true q s = absurd (none-some x s)

  -- One is kept, which was accepted.
  pub filter-some : (o r : Option A) → MatchOption o (r ≡ None) (λ x. (b : Bool) × Gives x b × (r ≡ then_some b x)) → (y : A) → r ≡ Some y → (o ≡ Some y) × (test y ≡ true)
  filter-some None r k y e = absurd (none-some y (sym k ∙ e))
  filter-some (Some x) r (b, gives, k) y e = go b (says x b gives) (sym e ∙ k)
    where
      go : (b : Bool) → b ≡ test x → Some y ≡ then_some b x → (Some x ≡ Some y) × (test y ≡ true)
      go false q s = absurd (none-some y (sym s))
      go true q s = let w : y ≡ x = same_Some y x s in (sym s, rw w (sym q))

-- The error in its place.
pub none-err : {A E : Type 0} (r : Option A) (why e : E) → r ≡ None → ◌≡◌ {A = Result A E} (Err e) (ok_or r why) → e ≡ why
none-err None why e n v = cc
none-err (Some x) why e n v = absurd (none-some x (sym n))
