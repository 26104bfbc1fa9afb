-- `is_circular` meets its contract. Each that waits was put there by a raise of a mark, so that the search ends. Assumes nothing.
use Rattle.std.proofs.Common.{◌<◌, ℕ, Some, None, List, [], ◌∷◌, length, sum, sym, ap, subst, arith}
use mathlib.Core.Logic.{inl, inr}
use mathlib.Core.List.Memᴰ
use mathlib.Core.List.{Memᴰ}
use lib.ListN.{length-append}
use Rattle.rules.specs.Decks.{symbol_words}
use Rattle.rules.specs.Ranks.{rests_on}
use Rattle.deck.proofs.OpenLaws.{accepted-deck}
use Rattle.ranks.specs.Raising.{at}
use Rattle.ranks.specs.Searching.{Popped}
use Rattle.ranks.proofs.ListLaws.{in-more, in-last, of-more}
use Rattle.ranks.proofs.ClauseFacts.{symbols-few, rests-below}
use Rattle.ranks.proofs.SearchLaws.{Search, sum-two, pushes-grow, pushes-sum, pushes-within, search-start, search-more, search-end, told}
use Rattle.ranks.proofs.searching.is_circular.Goals as goal
use Rattle.ranks.proofs.searching.is_circular.Goals.{In-Some}

-- The one that is taken.
taken : (k : goal.In-Some) → Popped k.loop-q.search.marks k.loop-q.search.waiting.items (Some k.in-Some.q) k.next.new.self.marks k.next.new.self.waiting.items
taken k =
    subst (λ o. Popped k.loop-q.search.marks k.loop-q.search.waiting.items o k.next.new.self.marks k.next.new.self.waiting.items) k.in-Some.is k.next.ensures

waited : (k : goal.In-Some) → Memᴰ k.in-Some.q k.loop-q.search.waiting.items
waited k = subst (Memᴰ k.in-Some.q) (sym (taken k).1) (in-last k.in-Some.q k.next.new.self.waiting.items)

pub from-search-requires : goal.from-search-requires
from-search-requires c =
    let ws = c.args.clauses.now.deck.words.now in
    let d = accepted-deck ws c.args.clauses.now.deck.opens in
    omega (arith, c.requires, symbols-few ws d.0 d.1)

pub loop-q-init : goal.loop-q-init
loop-q-init c =
    let s = c.from-search.result in
    let b = c.from-search.ensures in
    record {
      marked = omega (arith, b.here);
      inside = λ x m. elim (of-more c.args.p [] (subst (Memᴰ x) b.waits m)) [ inl e ↦ omega (arith, c.requires) | inr k ↦ absurd (Memᴰ.not-nil k) ];
      found = λ d e. search-start d.clauses c.args.p s.marks s.waiting.items b;
    }

pub follow-requires : goal.follow-requires
follow-requires c = c.loop-q.invariant.inside c.in-Some.q (waited (goal.at.follow-requires c).In-Some)

pub loop-q-smaller : goal.loop-q-smaller
loop-q-smaller c =
    let k = (goal.at.loop-q-smaller c).In-Some in
    let l = c.loop-q.search in
    let s = c.next.new.self in
    let s' = c.follow.new.self in
    let ws = c.args.clauses.now.deck.words.now in
    let d = accepted-deck ws c.args.clauses.now.deck.opens in
    let f = c.follow.ensures d.0 d.1 in
    omega (
      arith,
      pushes-sum (rests_on d.0.clauses c.in-Some.q) (at s.marks c.in-Some.q) s.marks s.waiting.items f.pushes,
      ap sum (taken k).0,
      ap length (taken k).1,
      length-append s.waiting.items (c.in-Some.q ∷ []),
      sum-two s'.marks s'.ready.two,
      s'.ready.size,
    )

pub loop-q-preserved : goal.loop-q-preserved
loop-q-preserved c =
    let k = (goal.at.loop-q-preserved c).In-Some in
    let h = c.loop-q.invariant in
    let l = c.loop-q.search in
    let s = c.next.new.self in
    let s' = c.follow.new.self in
    let p = c.args.p in
    let q = c.in-Some.q in
    let ws = c.args.clauses.now.deck.words.now in
    let d₀ = accepted-deck ws c.args.clauses.now.deck.opens in
    let f₀ = c.follow.ensures d₀.0 d₀.1 in
    record {
      marked = omega (arith, h.marked, ap (λ (ms : List ℕ). at ms p) (taken k).0, pushes-grow (rests_on d₀.0.clauses q) (at s.marks q) s.marks s.waiting.items f₀.pushes p);
      inside =
          pushes-within (rests_on d₀.0.clauses q) (at s.marks q) s.marks s.waiting.items (length (symbol_words ws)) (rests-below ws d₀.0 d₀.1 q)
          (λ x m. h.inside x (subst (Memᴰ x) (sym (taken k).1) (in-more q s.waiting.items m))) f₀.pushes;
      found = λ d e.
          search-more d.clauses p q s.marks l.waiting.items s.waiting.items s'.marks s'.waiting.items
          (subst (λ (ms : List ℕ). Search d.clauses p ms l.waiting.items) (sym (taken k).0) (h.found d e))
          (subst (λ (ms : List ℕ). 0 < at ms q) (sym (taken k).0) (l.ready.marked q (waited k))) (taken k).1 (c.follow.ensures d e);
    }

pub returns : goal.returns
returns c d e =
    let h = c.loop-q.invariant in
    let l = c.loop-q.search in
    let p = c.args.p in
    let o : Popped l.marks l.waiting.items None c.next.new.self.marks c.next.new.self.waiting.items =
    subst (λ o. Popped l.marks l.waiting.items o c.next.new.self.marks c.next.new.self.waiting.items) c.in_default.is c.next.ensures in
    rw (o.0, c.from.ensures) (told d.clauses p l.marks (l.ready.two p) (search-end d.clauses p l.marks l.waiting.items o.1 h.marked (h.found d e)))
