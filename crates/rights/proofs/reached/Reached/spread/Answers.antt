-- `spread` meets its contract.
use Rattle.std.proofs.Common.{ℕ, ◌≡◌, ◌≤◌, ◌<◌, Option, Some, List, [], length, get_or, ◌∙◌, subst, arith, rules, tests}
use Rattle.std.specs.Prelude.{MatchOption}
use Rattle.deck.proofs.OpenLaws.{accepted-deck}
use Rattle.rights.proofs.ReachedLaws.{at-place, spread-none, spread-more, spread-all, longer, within-more, looked_up}
use Rattle.rights.proofs.MarkLaws.{list-few}
use Rattle.rights.proofs.reached.Reached.spread.Goals as goal

pub loop-at-init : goal.loop-at-init
loop-at-init c = record { within = c.requires; inside = omega arith; spreading = λ d starts e f. spread-none d.clauses starts _ f }

-- The entry at the place.
there : (list : List ℕ) (at : ℕ) (o : Option ℕ) → MatchOption o (length list ≤ at) (λ p. (at < length list) × (p ≡ get_or list at 0)) → (p : ℕ) → o ≡ Some p
    → (at < length list) × (p ≡ get_or list at 0)
there list at o m p e = subst (λ x. MatchOption x (length list ≤ at) (λ p. (at < length list) × (p ≡ get_or list at 0))) e m

pub returns-in_default : goal.returns-in_default
returns-in_default c = λ d starts e f. spread-all d.clauses starts _ c.loop-at.at (c.loop-at.invariant.spreading d starts e f) (search (rules, tests))

pub add_bodies-requires : goal.add_bodies-requires
add_bodies-requires c =
    let list = c.loop-at.self.list.items in
    let r = there list c.loop-at.at _ (looked_up list _ c.loop-at.at _ c.deref.ensures.0 c.get.ensures.lookup.3 _ c.copied.ensures) c.in-Some.p c.in-Some.is in
    let q : c.from.result ≡ get_or list c.loop-at.at 0 = c.from.ensures ∙ r.1 in
    rw q (c.loop-at.invariant.within.each _ (at-place list c.loop-at.at r.0))

pub loop-at-preserved : goal.loop-at-preserved
loop-at-preserved c =
    let list = c.loop-at.self.list.items in
    let at = c.loop-at.at in
    let h = c.loop-at.invariant in
    let ws = c.args.clauses.now.deck.words.now in
    let d = accepted-deck ws c.args.clauses.now.deck.opens in
    let r = there list at _ (looked_up list _ at _ c.deref.ensures.0 c.get.ensures.lookup.3 _ c.copied.ensures) c.in-Some.p c.in-Some.is in
    let q : c.from.result ≡ get_or list at 0 = c.from.ensures ∙ r.1 in
    record {
      within = within-more ws d.0 d.1 list c.from.result _ (c.add_bodies.ensures d.0 d.1) h.within;
      inside = longer d.0.clauses [] list at c.from.result r.0 q _ (c.add_bodies.ensures d.0 d.1);
      spreading = λ d starts e f. spread-more d.clauses starts list at c.from.result r.0 q _ (c.add_bodies.ensures d e) (h.spreading d starts e f) h.inside;
    }

pub returns : goal.returns
returns c =
    λ d starts e f. spread-all d.clauses starts _ c.loop-at.at (c.loop-at.invariant.spreading d starts e f)
    (omega (arith, c.loop-at-test.false, list-few c.loop-at.self.marks c.loop-at.self.list.items c.loop-at.self.marked))
