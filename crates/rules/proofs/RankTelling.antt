-- Which predicates are on a chain through a "not" back to themselves; and so every deck's clauses have a telling (least ranks, or the first such
-- predicate), and only one.
use Prim.Native.Nat.{ℕ, zero, suc, ◌+◌, ◌*◌, ◌≤◌, ◌<◌, min, max}
use mathlib.Core.Path.{◌≡◌, refl, sym, ◌∙◌, ap, ap₂, subst}
use mathlib.Core.Logic.{◌↔◌, ◌⊎◌, inl, inr, ite}
use mathlib.Core.List.{List, [], ◌∷◌, ◌++◌, Memᴰ}
use native.Mathlib.Decide.{ℕ_discrete, dec_lt}
use native.Mathlib.Omega.{arith}
use lib.ListN.{length, get_or, length-append, get_or-append}
use lib.Seq.{get_or_at}
use Rattle.rules.specs.Syntax.{Symbol, Literal, Clause, Deck, predicate_of}
use Rattle.rules.specs.Terms.{count}
use Rattle.rules.specs.Refusals.{Checked, refused, accepted}
use Rattle.rules.specs.Decks.{open_deck}
use Rattle.rules.specs.WellFormed.{All, WfClause, WfDeck}
use Rattle.rules.specs.Ranks.{nots, greatest, highest, rests_on, Least, Chain, stays, goes, Circular, Telling, ranks, circular, TellsLevels, rank_of, numbers, Levels, given, chained, levels_number, levels_of, Levelled, turned_down, told}
use Rattle.rules.proofs.CellLaws.{positive-below}
use Rattle.rules.proofs.RankLaws.{greatest-in, greatest-all, ranked-not-circular}
use Rattle.rules.proofs.RankSearch.{First, below_all, sum, only, only_at, only-off, greatest-from, heads, rests-none, rounds, rounds-bound, ranks-or-circle}

-- MARKS. Of a predicate p, each gets mark 0, 1 where a chain leads from it to p, and 2 where one through a "not" does.
unfoldable pub lift : ℕ → ℕ → ℕ
lift a zero = 0
lift a (suc x) = min 2 (a + suc x)

pub lift-pos : (a x : ℕ) → 0 < lift a x → 0 < x
unfolding lift
lift-pos a zero h = h
lift-pos a (suc x) h = omega arith

pub lift-above : (a x : ℕ) → lift a x ≤ a + x
unfolding lift
lift-above a zero = omega arith
lift-above a (suc x) = omega arith

pub lift-two : (a x : ℕ) → lift a x ≤ 2
unfolding lift
lift-two a zero = omega arith
lift-two a (suc x) = omega arith

lift-below : (a x n : ℕ) → min 2 (suc n) ≤ x → min 2 (suc (a + n)) ≤ lift a x
unfolding lift
lift-below a zero n h = absurd (omega arith)
lift-below a (suc x) n h = omega arith

pub sum-le : (f g : ℕ → ℕ) → ((s : ℕ) → f s ≤ g s) → (N : ℕ) → sum f N ≤ sum g N
unfolding sum
sum-le f g h zero = omega arith
sum-le f g h (suc N) = omega (arith, h N, sum-le f g h N)

pub sum_lt : (f g : ℕ → ℕ) → ((s : ℕ) → f s ≤ g s) → (q N : ℕ) → q < N → f q < g q → sum f N < sum g N
unfolding sum
sum_lt f g h q zero l k = absurd (omega arith)
sum_lt f g h q (suc N) l k = elim (ℕ_discrete q N) [
  | yes e ↦ omega (arith, (rw e at k), sum-le f g h N)
  | no n ↦ omega (arith, h N, sum_lt f g h q N (omega arith) k)
]

pub sum-two : (f : ℕ → ℕ) → ((s : ℕ) → f s ≤ 2) → (N : ℕ) → sum f N ≤ 2 * N
unfolding sum
sum-two f h zero = omega arith
sum-two f h (suc N) = omega (arith, h N, sum-two f h N)

module _ (clauses : List Clause) (p : ℕ) where
  -- The best mark that a predicate has from those that it rests on.
  abbrev through : (ℕ → ℕ) → ℕ → ℕ
  through mark q = greatest (λ l. lift (nots l) (mark (predicate_of l))) (rests_on clauses q)

  -- Marks with chains to show for them, and marks to which nothing is to be added: together they tell whether p is on such a chain.
  abbrev pub Shown : (ℕ → ℕ) → Type 0
  Shown mark = (q : ℕ) → 0 < mark q → (n : ℕ) × Chain clauses q p n × (mark q ≤ suc n)

  abbrev pub Full : (ℕ → ℕ) → Type 0
  Full mark = (0 < mark p) × ((q : ℕ) → through mark q ≤ mark q)

  full-chain : (mark : ℕ → ℕ) → ((q : ℕ) → through mark q ≤ mark q) → {q r n : ℕ} → Chain clauses q r n → 0 < mark r → min 2 (suc n) ≤ mark q
  full-chain mark f stays h = omega arith
  full-chain mark f (goes {p = s} {n = n} l m c) h =
      omega (arith, f s, greatest-in (λ l. lift (nots l) (mark (predicate_of l))) m, lift-below (nots l) (mark (predicate_of l)) n (full-chain mark f c h))

  negated : (n : ℕ) → Chain clauses p p n → 2 ≤ suc n → Circular clauses p
  negated zero c h = absurd (omega arith)
  negated (suc n) c h = (n, c)

  pub marks-tell : (mark : ℕ → ℕ) → Shown mark → Full mark → (1 < mark p) ↔ Circular clauses p
  marks-tell mark s f = (
    λ h. let r = s p (omega arith) in negated r.0 r.1 (omega (arith, r.2)),
    λ c. omega (arith, full-chain mark f.1 c.1 f.0),
  )

  -- A mark may be raised by one that it rests on.
  pub shown-raise : (mark next : ℕ → ℕ) (q : ℕ) (l : Literal) → Shown mark → Memᴰ l (rests_on clauses q)
      → next q ≡ lift (nots l) (mark (predicate_of l)) → ((x : ℕ) → (q ≡ x → ⊥) → next x ≡ mark x) → Shown next
  shown-raise mark next q l s m e same x h = elim (ℕ_discrete q x) [
    | yes w ↦ (
        let f : next x ≡ lift (nots l) (mark (predicate_of l)) = ap next (sym w) ∙ e in
        let c = s (predicate_of l) (lift-pos (nots l) (mark (predicate_of l)) (omega arith)) in
        (nots l + c.0, subst (λ y. Chain clauses y p (nots l + c.0)) w (goes l m c.1), omega (arith, c.2, lift-above (nots l) (mark (predicate_of l)))))
    | no n ↦ (let c = s x (omega (arith, same x n)) in (c.0, c.1, omega (arith, c.2, same x n)))
  ]

  -- Such marks are found by rounds.
  marks : ℕ → ℕ → ℕ
  marks zero q = only p q
  marks (suc k) q = max (marks k q) (through (marks k) q)

  only_two : (q : ℕ) → only p q ≤ 2
  unfolding only
  only_two q = elim (ℕ_discrete p q) as (λ d. ite d 1 0 ≤ 2) [ yes e ↦ omega arith | no n ↦ omega arith ]

  marks-two : (k q : ℕ) → marks k q ≤ 2
  unfolding marks
  marks-two zero q = only_two q
  marks-two (suc k) q =
      omega (
        arith,
        marks-two k q,
        greatest-all (λ l. lift (nots l) (marks k (predicate_of l))) 2 (rests_on clauses q) (λ l m. lift-two (nots l) (marks k (predicate_of l))),
      )

  marks-start : (k : ℕ) → 0 < marks k p
  unfolding marks
  marks-start zero = omega (arith, only_at p p refl)
  marks-start (suc k) = omega (arith, marks-start k)

  marks-shown : (k : ℕ) → Shown (marks k)
  unfolding marks
  marks-shown zero q h = elim (ℕ_discrete p q) [
    | yes e ↦ (0, subst (λ x. Chain clauses x p 0) e stays, omega (arith, only_at p q e))
    | no n ↦ absurd (omega (arith, only-off p q n))
  ]
  marks-shown (suc k) q h =
      go (dec_lt (marks k q) (through (marks k) q)) (greatest-from (λ l. lift (nots l) (marks k (predicate_of l))) (rests_on clauses q)) (marks-shown k)
    where
      go : Dec (marks k q < through (marks k) q)
          → (through (marks k) q ≡ 0) ⊎ ((l : Literal) × Memᴰ l (rests_on clauses q) × (through (marks k) q ≡ lift (nots l) (marks k (predicate_of l))))
          → Shown (marks k) → (n : ℕ) × Chain clauses q p n × (max (marks k q) (through (marks k) q) ≤ suc n)
      go (no n) r s = let c = s q (omega arith) in (c.0, c.1, omega (arith, c.2))
      go (yes l) (inl z) s = absurd (omega arith)
      go (yes l) (inr r) s =
          let a : ℕ = nots r.0 in
          let x : ℕ = marks k (predicate_of r.0) in
          let c = s (predicate_of r.0) (lift-pos a x (omega (arith, r.2))) in
          (a + c.0, goes r.0 r.1 c.1, omega (arith, r.2, c.2, lift-above a x))

  marks-full : (fuel k : ℕ) → 2 * heads clauses < fuel + sum (marks k) (heads clauses) → (j : ℕ) × Full (marks j)
  unfolding marks
  marks-full zero k h = absurd (omega (arith, sum-two (marks k) (marks-two k) (heads clauses)))
  marks-full (suc fuel) k h =
      go (below_all (λ q. through (marks k) q ≤ marks k q) (λ q. marks k q < through (marks k) q)
      (λ q. elim (dec_lt (marks k q) (through (marks k) q)) [ yes l ↦ inr l | no n ↦ inl (omega arith) ]) (heads clauses)) (marks-full fuel (suc k))
    where
      grows : (q : ℕ) → marks k q ≤ marks (suc k) q
      grows q = omega arith

      go : ((q : ℕ) → q < heads clauses → through (marks k) q ≤ marks k q)
          ⊎ First (λ q. through (marks k) q ≤ marks k q) (λ q. marks k q < through (marks k) q) (heads clauses)
          → (2 * heads clauses < fuel + sum (marks (suc k)) (heads clauses) → (j : ℕ) × Full (marks j)) → (j : ℕ) × Full (marks j)
      go (inl a) again =
          (k, (marks-start k, λ q. elim (dec_lt q (heads clauses)) [ yes l ↦ a q l | no n ↦ rw (rests-none clauses q (omega arith)) (omega arith) ]))
      go (inr w) again = again (omega (arith, sum_lt (marks k) (marks (suc k)) grows w.0 (heads clauses) w.1 (omega (arith, w.2))))

  pub circular? : Dec (Circular clauses p)
  circular? =
      let f = marks-full (suc (2 * heads clauses)) 0 (omega arith) in
      let t = marks-tell (marks f.0) (marks-shown f.0) f.1 in
      elim (dec_lt 1 (marks f.0 p)) [ yes h ↦ yes (t.0 h) | no n ↦ no (λ c. n (t.1 c)) ]

-- THE OTHER WAY ROUND, for a program that follows a predicate's own clauses: marks of what p leads to.
pub chain-join : {clauses : List Clause} {p q r n m : ℕ} → Chain clauses p q n → Chain clauses q r m → Chain clauses p r (n + m)
chain-join {clauses} {m = m} (stays {p}) d = let e : m ≡ 0 + m = omega arith in subst (Chain clauses p _) e d
chain-join {clauses} {m = m} (goes {p} {n = n} l k c) d =
    let e : nots l + (n + m) ≡ nots l + n + m = omega arith in subst (Chain clauses p _) e (goes l k (chain-join c d))

module _ (clauses : List Clause) (p : ℕ) where
  abbrev pub Reached : (ℕ → ℕ) → Type 0
  Reached mark = (q : ℕ) → 0 < mark q → (n : ℕ) × Chain clauses p q n × (mark q ≤ suc n)

  abbrev pub Followed : (ℕ → ℕ) → Type 0
  Followed mark = (0 < mark p) × ((q : ℕ) (l : Literal) → Memᴰ l (rests_on clauses q) → lift (nots l) (mark q) ≤ mark (predicate_of l))

  followed-chain : (mark : ℕ → ℕ) → Followed mark → {q r n : ℕ} → Chain clauses q r n → (a : ℕ) → min 2 (suc a) ≤ mark q → min 2 (suc (a + n)) ≤ mark r
  followed-chain mark f stays a h = omega arith
  followed-chain mark f (goes {p = q} l m c) a h =
      omega (arith, followed-chain mark f c (nots l + a) (omega (arith, f.1 q l m, lift-below (nots l) (mark q) a h)))

  pub reached-tell : (mark : ℕ → ℕ) → Reached mark → Followed mark → (1 < mark p) ↔ Circular clauses p
  reached-tell mark s f = (
    λ h. let r = s p (omega arith) in negated clauses p r.0 r.1 (omega (arith, r.2)),
    λ c. omega (arith, followed-chain mark f c.1 0 (omega (arith, f.0))),
  )

  pub reached-raise : (mark next : ℕ → ℕ) (q : ℕ) (l : Literal) → Reached mark → Memᴰ l (rests_on clauses q)
      → next (predicate_of l) ≡ lift (nots l) (mark q) → ((x : ℕ) → (predicate_of l ≡ x → ⊥) → next x ≡ mark x) → Reached next
  reached-raise mark next q l s m e same x h = elim (ℕ_discrete (predicate_of l) x) [
    | yes w ↦ (
        let f : next x ≡ lift (nots l) (mark q) = ap next (sym w) ∙ e in
        let c = s q (lift-pos (nots l) (mark q) (omega arith)) in (
          c.0 + (nots l + 0),
          subst (λ y. Chain clauses p y (c.0 + (nots l + 0))) w (chain-join c.1 (goes l m stays)),
          omega (arith, c.2, lift-above (nots l) (mark q)),
        ))
    | no n ↦ (let c = s x (omega (arith, same x n)) in (c.0, c.1, omega (arith, c.2, same x n)))
  ]

-- EVERY DECK'S CLAUSES HAVE ONE OF THE TWO TELLINGS,
pub tells-some : (clauses : List Clause) → (t : Telling) × TellsLevels clauses t
tells-some clauses = go (ranks-or-circle clauses)
  where
    go : Least clauses (rounds clauses (heads clauses)) ⊎ ((s : ℕ) × Circular clauses s) → (t : Telling) × TellsLevels clauses t
    go (inl h) = (ranks (rounds clauses (heads clauses)), h)
    go (inr w) =
        elim (below_all (λ q. Circular clauses q → ⊥) (Circular clauses) (λ q. elim (circular? clauses q) [ yes c ↦ inr c | no n ↦ inl n ]) (suc w.0)) [
          | inl h ↦ absurd (h w.0 (omega arith) w.1)
          | inr f ↦ (circular f.0, (f.2, f.3))
        ]

-- AND ONLY ONE.
abbrev pub Same : Telling → Telling → Type 0
Same (ranks r) (ranks s) = (p : ℕ) → r p ≡ s p
Same (ranks r) (circular q) = ⊥
Same (circular p) (ranks s) = ⊥
Same (circular p) (circular q) = p ≡ q

pub tells-same : (clauses : List Clause) (t u : Telling) → TellsLevels clauses t → TellsLevels clauses u → Same t u
tells-same clauses (ranks r) (ranks s) h k = λ p. omega (arith, h.least s k.ranked p, k.least r h.ranked p)
tells-same clauses (ranks r) (circular q) h k = ranked-not-circular clauses r h.ranked q k.0
tells-same clauses (circular p) (ranks s) h k = ranked-not-circular clauses s k.ranked p h.0
tells-same clauses (circular p) (circular q) h k = elim (dec_lt p q) [
  | yes l ↦ absurd (k.1 p l h.0)
  | no n ↦ elim (dec_lt q p) [ yes l ↦ absurd (h.1 q l k.0) | no m ↦ omega arith ]
]

-- So the numbers by symbol are determined too.
pub numbers-same : (t u : Telling) → Same t u → (n : ℕ) → numbers t n ≡ numbers u n
unfolding numbers
numbers-same t u h zero = refl
numbers-same (ranks r) (ranks s) h (suc n) = ap₂ (λ ns k. ns ++ (k ∷ [])) (numbers-same (ranks r) (ranks s) h n) (h n)
numbers-same (ranks r) (circular q) h (suc n) = absurd h
numbers-same (circular p) (ranks s) h (suc n) = absurd h
numbers-same (circular p) (circular q) h (suc n) = ap (λ ns. ns ++ (0 ∷ [])) (numbers-same (circular p) (circular q) h n)

-- RANKS ARE GIVEN EXACTLY WHEN NO SUCH CHAIN EXISTS.
abbrev pub Given : Telling → Type 0
Given (ranks r) = Unit {0}
Given (circular p) = ⊥

pub given-exactly : (clauses : List Clause) (t : Telling) → TellsLevels clauses t → Given t ↔ ((p : ℕ) → Circular clauses p → ⊥)
given-exactly clauses (ranks r) h = (λ g p c. ranked-not-circular clauses r h.ranked p c, λ n. tt)
given-exactly clauses (circular p) h = (λ g. absurd g, λ n. n p h.0)

-- Least ranks are 0 where no clause is, and at most the numbers up to the last head.
pub least-bound : (clauses : List Clause) (rank : ℕ → ℕ) → Least clauses rank → (p : ℕ) → rank p ≤ heads clauses
least-bound clauses rank h p = elim (ranks-or-circle clauses) [
  | inl k ↦ omega (arith, h.least (rounds clauses (heads clauses)) k.ranked p, rounds-bound clauses (heads clauses) p)
  | inr w ↦ absurd (ranked-not-circular clauses rank h.ranked w.0 w.1)
]

pub least_zero : (clauses : List Clause) (rank : ℕ → ℕ) → Least clauses rank → (p : ℕ) → rests_on clauses p ≡ [] → rank p ≡ 0
unfolding rounds
least_zero clauses rank h p e = elim (ranks-or-circle clauses) [
  | inl k ↦ omega (arith, h.least (rounds clauses (heads clauses)) k.ranked p, none (heads clauses))
  | inr w ↦ absurd (ranked-not-circular clauses rank h.ranked w.0 w.1)
]
  where
    none : (k : ℕ) → rounds clauses k p ≡ 0
    none zero = refl
    none (suc k) = ap (highest (rounds clauses k)) e

-- On a well-formed deck they are at most 4,096.
pub heads-symbols : (S : List Symbol) (cs : List Clause) → All (WfClause S) cs → heads cs ≤ length S
heads-symbols S [] h = omega arith
heads-symbols S (c ∷ cs) h = omega (arith, positive-below S c.predicate (count c.arguments) h.0.literals.0.0, heads-symbols S cs h.1)

pub least_fits : (deck : Deck) → WfDeck deck → (rank : ℕ → ℕ) → Least deck.clauses rank → (p : ℕ) → rank p ≤ 4096
least_fits deck wf rank h p =
    omega (arith, least-bound deck.clauses rank h p, heads-symbols deck.symbols deck.clauses wf.clauses, wf.few_symbols)

-- THE CALL HAS AN ANSWER, AND ONLY ONE.
pub levels-some : (deck_words entry : List ℕ) → (r : Checked Levels) × (exit : List ℕ) × Levelled deck_words entry r exit
levels-some deck_words entry = go (open_deck deck_words) refl
  where
    go : (c : Checked Deck) → open_deck deck_words ≡ c → (r : Checked Levels) × (exit : List ℕ) × Levelled deck_words entry r exit
    go (refused n) e = (refused n, entry, turned_down e)
    go (accepted deck) e = let t = tells-some deck.clauses in (accepted (levels_of t.0), numbers t.0 4096, told t.0 e t.1)

levels-of : (t u : Telling) → Same t u → levels_of t ≡ levels_of u
levels-of (ranks r) (ranks s) h = refl
levels-of (ranks r) (circular q) h = absurd h
levels-of (circular p) (ranks s) h = absurd h
levels-of (circular p) (circular q) h = ap chained h

-- Their number tells the two cases apart, and the predicate.
pub number-injective : (a b : Levels) → levels_number a ≡ levels_number b → a ≡ b
number-injective given given e = refl
number-injective given (chained q) e = absurd (omega arith)
number-injective (chained p) given e = absurd (omega arith)
number-injective (chained p) (chained q) e = ap chained (omega arith)

pub levels-same : {deck_words entry exit other : List ℕ} {r s : Checked Levels} → Levelled deck_words entry r exit → Levelled deck_words entry s other → (r ≡ s) × (exit ≡ other)
levels-same (turned_down {n} e) (turned_down {n = m} f) = let same : n ≡ m = cc in (ap refused same, refl)
levels-same (turned_down e) (told u f k) = absurd (let z : ◌≡◌ {A = ℕ} 0 1 = cc in omega arith)
levels-same (told t e h) (turned_down f) = absurd (let z : ◌≡◌ {A = ℕ} 0 1 = cc in omega arith)
levels-same (told {deck} t e h) (told {deck = deck'} u f k) =
    let same : deck' ≡ deck = cc in
    let one = tells-same deck.clauses t u h (subst (λ (d : Deck). TellsLevels d.clauses u) same k) in
    (ap accepted (levels-of t u one), numbers-same t u one 4096)

-- The list keeps its length.
pub numbers-many : (t : Telling) (n : ℕ) → length (numbers t n) ≡ n
unfolding numbers
numbers-many t zero = refl
numbers-many t (suc n) = omega (arith, length-append (numbers t n) (rank_of t n ∷ []), numbers-many t n)

-- At a predicate's place is its rank.
pub numbers-at : (t : Telling) (n i : ℕ) → i < n → get_or (numbers t n) i 0 ≡ rank_of t i
unfolding numbers
numbers-at t zero i h = absurd (omega arith)
numbers-at t (suc n) i h = elim (ℕ_discrete i n) [
  | yes e ↦ get_or_at (numbers t n) (rank_of t n) [] 0 i (numbers-many t n ∙ sym e) ∙ ap (rank_of t) (sym e)
  | no k ↦ get_or-append (numbers t n) (rank_of t n ∷ []) 0 i (omega (arith, numbers-many t n)) ∙ numbers-at t n i (omega arith)
]

pub levels-length : {deck_words entry exit : List ℕ} {r : Checked Levels} → length entry ≡ 4096 → Levelled deck_words entry r exit → length exit ≡ 4096
levels-length h (turned_down e) = h
levels-length h (told t e k) = numbers-many t 4096
