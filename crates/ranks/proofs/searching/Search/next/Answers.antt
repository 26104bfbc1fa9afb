-- `next` meets its contract. Assumes nothing.
use Rattle.std.proofs.Common.{◌≡◌, ◌<◌, ℕ, Option, Some, None, IsSome, List, [], ◌∷◌, ◌++◌, length, option_to_list, refl, sym, ◌∙◌, subst, arith}
use mathlib.Core.Bool.{false≢true}
use mathlib.Core.List.{append-nil}
use Rattle.ranks.specs.Searching.{Ready, Popped}
use Rattle.ranks.proofs.SearchLaws.{ready-popped}
use Rattle.ranks.proofs.searching.Search.next.Goals as goal

pub invariant_of-self : goal.invariant_of-self
invariant_of-self c = record { ready = go c.pop.result c.pop.ensures.items }
  where
    go : (o : Option ℕ) → c.args.self.now.waiting.items ≡ c.pop.new.self.items ++ option_to_list o → Ready c.args.self.now.marks c.pop.new.self.items
    go None e = let h : c.args.self.now.waiting.items ≡ c.pop.new.self.items = e ∙ append-nil c.pop.new.self.items in subst (Ready c.args.self.now.marks) h c.args.self.now.ready
    go (Some q) e = ready-popped c.args.self.now.marks c.args.self.now.waiting.items c.pop.new.self.items q c.args.self.now.ready e

none-left : (xs : List ℕ) → (0 < length xs → ⊥) → xs ≡ []
none-left [] h = refl
none-left (x ∷ xs) h = absurd (h (omega arith))

popped : (marks old new : List ℕ) (o : Option ℕ) → old ≡ new ++ option_to_list o → (0 < length old → IsSome o) → Popped marks old o marks new
popped marks old new None e h =
    let z : old ≡ [] = none-left old (λ k. absurd (let i : IsSome {T = ℕ} None = h k in false≢true i)) in
    let n : old ≡ new = e ∙ append-nil new in
    (refl, z, sym n ∙ z)
popped marks old new (Some q) e h = (refl, e)

pub returns : goal.returns
returns c = popped c.args.self.now.marks c.args.self.now.waiting.items c.pop.new.self.items c.pop.result c.pop.ensures.items c.pop.ensures.variant.1
