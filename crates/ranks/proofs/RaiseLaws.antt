-- Words that are raised clause by clause: what is kept, and what passes come to. Assumes nothing.
use Prim.Native.Nat.{ℕ, zero, suc, ◌+◌, ◌-◌, ◌≤◌, ◌<◌}
use mathlib.Core.Path.{◌≡◌, refl, sym, ◌∙◌, ap, subst}
use mathlib.Core.Logic.{inl, inr}
use mathlib.Core.List.Memᴰ
use mathlib.Core.List.{List, [], ◌∷◌, Memᴰ}
use native.Mathlib.Omega.{arith}
use native.Mathlib.Decide.{ℕ_discrete, dec_lt}
use lib.ListN.{length, set, length-set, length-drop}
use lib.Seq.{get_or-set_same, get_or-set_other, ext_get_or}
use Rattle.rules.specs.Syntax.{Literal, Clause, predicate_of}
use Rattle.rules.specs.WellFormed.{All}
use Rattle.rules.specs.Ranks.{greatest, rests_on, Least, Chain, stays, goes, Circular, Telling, rank_of, numbers}
use Rattle.rules.proofs.RankLaws.{by-clauses, rests-in, chain_rank}
use Rattle.rules.proofs.RankSearch.{heads, rests-none, greatest-from, rounds, Borne, borne-raise, borne-least, ranks-or-circle, rounds-next, high-rank}
use Rattle.rules.proofs.RankTelling.{numbers-many, numbers-at}
use Rattle.clauses.specs.Clauses.{ClauseAt}
use Rattle.ranks.specs.declared.raising.Pass.{Pass}
use Rattle.ranks.specs.declared.raising.Pass.TheVariants.{Same, Raised, Above}
use Rattle.ranks.specs.Raising.{at, number, Raises, none, more, Covers, Rose, Exceeds, Stepped, Passed}

-- ONE WORD SET
pub at_same : (ws : List ℕ) (p v : ℕ) → p < length ws → at (set ws p v) p ≡ v
at_same ws p v h = get_or-set_same ws p v 0 h

pub at_other : (ws : List ℕ) (p v x : ℕ) → (p ≡ x → ⊥) → at (set ws p v) x ≡ at ws x
at_other ws p v x n = get_or-set_other ws p x v 0 (λ e. n (sym e))

pub set-grows : (ws : List ℕ) (p v x : ℕ) → p < length ws → at ws p < v → at ws x ≤ at (set ws p v) x
set-grows ws p v x h k = elim (ℕ_discrete p x) [
  | yes e ↦ subst (λ y. at ws y ≤ at (set ws p v) y) e (omega (arith, at_same ws p v h))
  | no n ↦ omega (arith, at_other ws p v x n)
]

-- CLAUSES BY PLACE
pub at-below : (cs : List Clause) (i : ℕ) (c : Clause) → ClauseAt cs i c → i < length cs
at-below cs i c e = omega (arith, ap length e, length-drop i cs, length-drop (i + 1) cs)

pub clause-in : (cs : List Clause) (i : ℕ) (c : Clause) → ClauseAt cs i c → Memᴰ c cs
clause-in [] i c e = absurd (omega (arith, ap length e, length-drop {A = Clause} i []))
clause-in (d ∷ cs) zero c e = let s : d ≡ c = cc in Memᴰ.head (sym s)
clause-in (d ∷ cs) (suc i) c e = let k : suc i + 1 ≡ suc (i + 1) = omega arith in Memᴰ.tail (clause-in cs i c (rw k at e))

pub all-at : (P : Clause → Type 0) (cs : List Clause) → ((i : ℕ) (c : Clause) → ClauseAt cs i c → P c) → All P cs
all-at P [] h = tt
all-at P (c ∷ cs) h = (h 0 c refl, all-at P cs (λ i d e. let k : suc i + 1 ≡ suc (i + 1) = omega arith in h (suc i) d (rw k e)))

module _ (clauses : List Clause) (start : List ℕ) where
  -- RAISES, one after another.
  pub raises-length : {ws : List ℕ} → Raises clauses start ws → length ws ≡ length start
  raises-length none = refl
  raises-length (more {ws} p l r h m up) = length-set ws p (number ws l) ∙ raises-length r

  pub raises-grow : {ws : List ℕ} → Raises clauses start ws → (x : ℕ) → at start x ≤ at ws x
  raises-grow none x = omega arith
  raises-grow (more {ws} p l r h m up) x = omega (arith, raises-grow r x, set-grows ws p (number ws l) x h up)

  pub raises-join : {mid ws : List ℕ} → Raises clauses start mid → Raises clauses mid ws → Raises clauses start ws
  raises-join r none = r
  raises-join r (more p l s h m up) = more p l (raises-join r s) h m up

  -- COVERED, clause by clause.
  pub covers-all : (now : List ℕ) → ((i : ℕ) (c : Clause) → ClauseAt clauses i c → greatest (number start) c.body ≤ at now c.predicate) → Covers clauses start now
  covers-all now h = by-clauses (number start) (at now) clauses (all-at (λ c. greatest (number start) c.body ≤ at now c.predicate) clauses h)

greatest-le : (f g : Literal → ℕ) → ((l : Literal) → f l ≤ g l) → (ls : List Literal) → greatest f ls ≤ greatest g ls
greatest-le f g h [] = omega arith
greatest-le f g h (l ∷ ls) = omega (arith, h l, greatest-le f g h ls)

-- What literals come to does not fall when words rise.
pub greatest-rises : (ws vs : List ℕ) → ((x : ℕ) → at ws x ≤ at vs x) → (ls : List Literal) → greatest (number ws) ls ≤ greatest (number vs) ls
greatest-rises ws vs h ls =
    greatest-le (number ws) (number vs) (λ l. omega (arith, h (predicate_of l))) ls

-- The literal of a clause's body that is above the word of its predicate.
pub above_from : (clauses : List Clause) (ws : List ℕ) (i : ℕ) (c : Clause) (v : ℕ) → ClauseAt clauses i c → v ≡ greatest (number ws) c.body
    → at ws c.predicate < v → (l : Literal) × Memᴰ l (rests_on clauses c.predicate) × (v ≡ number ws l)
above_from clauses ws i c v e q up = elim (greatest-from (number ws) c.body) [
  | inl z ↦ absurd (omega arith)
  | inr r ↦ (r.0, rests-in r.0 (clause-in clauses i c e) r.1, q ∙ r.2)
]

-- RANKS
module _ (clauses : List Clause) where
  pub borne-raises : {start ws : List ℕ} → Raises clauses start ws → Borne clauses (at start) → Borne clauses (at ws)
  borne-raises none b = b
  borne-raises (more {ws} p l r h m up) b =
      borne-raise clauses (at ws) (at (set ws p (number ws l))) p l (borne-raises r b) m (at_same ws p (number ws l) h) (λ x n. at_other ws p (number ws l) x n)

  pub borne-zero : (ws : List ℕ) → ((p : ℕ) → at ws p ≡ 0) → Borne clauses (at ws)
  borne-zero ws z p = (p, rw (z p) stays)

  rounds-rise : (k p : ℕ) → rounds clauses k p ≤ rounds clauses (suc k) p
  unfolding rounds
  rounds-rise zero p = omega arith
  rounds-rise (suc k) p = rounds-next clauses k (rounds clauses (suc k)) (rounds clauses (suc (suc k))) (rounds-rise k) (λ q. omega arith) p

  rounds-more : (n k p : ℕ) → rounds clauses n p ≤ rounds clauses (k + n) p
  rounds-more n zero p = let e : 0 + n ≡ n = omega arith in rw e (omega arith)
  rounds-more n (suc k) p = let e : suc k + n ≡ suc (k + n) = omega arith in rw e (omega (arith, rounds-more n k p, rounds-rise (k + n) p))

  -- A word that rises in a pass after N passes or more shows that there are no ranks.
  pub late-rise : (k : ℕ) (ws vs : List ℕ) → heads clauses ≤ k → ((p : ℕ) → rounds clauses k p ≤ at ws p) → Borne clauses (at vs) → Rose ws vs → (s : ℕ) × Circular clauses s
  late-rise k ws vs z h b up = elim (ranks-or-circle clauses) [
    | inr w ↦ w
    | inl r ↦ (
        let p = up.0 in
        let e : k - heads clauses + heads clauses ≡ k = omega arith in
        let m : rounds clauses (heads clauses) p ≤ rounds clauses k p = rw e at (rounds-more (heads clauses) (k - heads clauses) p) in
        absurd (omega (arith, up.1, h p, m, chain_rank clauses (rounds clauses (heads clauses)) r.ranked (b p).1)))
  ]

  -- So does a number above 4,096.
  pub high-rise : (ws : List ℕ) → heads clauses ≤ 4096 → Borne clauses (at ws) → Exceeds clauses ws → (s : ℕ) × Circular clauses s
  high-rise ws z b (p, l, m, h, up, over) =
      let v = number ws l in
      high-rank clauses (at (set ws p v)) (borne-raise clauses (at ws) (at (set ws p v)) p l b m (at_same ws p v h) (λ x n. at_other ws p v x n)) p
      (omega (arith, at_same ws p v h))

  pub pass-rounds : (k : ℕ) (ws vs : List ℕ) → ((p : ℕ) → rounds clauses k p ≤ at ws p) → Covers clauses ws vs → (p : ℕ) → rounds clauses (suc k) p ≤ at vs p
  pass-rounds k ws vs h c = rounds-next clauses k (at ws) (at vs) h c

  pub rounds-start : (ws : List ℕ) (p : ℕ) → rounds clauses 0 p ≤ at ws p
  unfolding rounds
  rounds-start ws p = omega arith

  pub settled : (ws : List ℕ) → Borne clauses (at ws) → Covers clauses ws ws → Least clauses (at ws)
  settled ws b c = borne-least clauses (at ws) b c

-- A word past the end is 0.
pub past_end : (ws : List ℕ) (p : ℕ) → length ws ≤ p → at ws p ≡ 0
past_end [] p h = refl
past_end (w ∷ ws) zero h = absurd (omega arith)
past_end (w ∷ ws) (suc p) h = past_end ws p (omega arith)

-- A predicate on such a chain is below the heads.
pub circle-head : (clauses : List Clause) (s : ℕ) → Circular clauses s → s < heads clauses
circle-head clauses s (n, c) = elim (dec_lt s (heads clauses)) [ yes h ↦ h | no k ↦ absurd (go (suc n) c (omega arith) (rests-none clauses s (omega arith))) ]
  where
    go : {q : ℕ} (m : ℕ) → Chain clauses s q m → 0 < m → rests_on clauses s ≡ [] → ⊥
    go m stays h e = omega arith
    go m (goes l k c) h e = let z : Memᴰ l [] = rw e at k in Memᴰ.not-nil z

-- A PASS
-- Whether a word was raised.
abbrev pub Change : Pass → List ℕ → List ℕ → Type 0
Change Same start now = now ≡ start
Change Raised start now = Rose start now
Change Above start now = ⊥

-- The clauses before i are done.
pub record Done (clauses : List Clause) (start now : List ℕ) (so : Pass) (i : ℕ) : Type 0 where
  pub raises : Raises clauses start now
  pub covered : (k : ℕ) (c : Clause) → k < i → ClauseAt clauses k c → greatest (number start) c.body ≤ at now c.predicate
  pub change : Change so start now

module _ (clauses : List Clause) (start : List ℕ) where
  pub done-start : Done clauses start start Same 0
  done-start = record { raises = none; covered = λ k c h e. absurd (omega arith); change = refl }

  one_more : (now : List ℕ) (i : ℕ) (c : Clause) → ClauseAt clauses i c
      → ((k : ℕ) (b : Clause) → k < i → ClauseAt clauses k b → greatest (number start) b.body ≤ at now b.predicate)
      → greatest (number start) c.body ≤ at now c.predicate
      → (k : ℕ) (b : Clause) → k < i + 1 → ClauseAt clauses k b → greatest (number start) b.body ≤ at now b.predicate
  one_more now i c e h z k b l f = elim (ℕ_discrete k i) [
    | yes q ↦ (
        let g : ClauseAt clauses i b = subst (λ (m : ℕ). ClauseAt clauses m b) q f in
        let same : c ≡ b = cc in
        subst (λ (x : Clause). greatest (number start) x.body ≤ at now x.predicate) same z)
    | no n ↦ h k b (omega arith) f
  ]

  pub done-same : (mid now : List ℕ) (so : Pass) (i : ℕ) (c : Clause) → ClauseAt clauses i c → Done clauses start mid so i → Stepped clauses c mid now Same
      → Done clauses start now so (i + 1)
  done-same mid now so i c e r s =
      subst (λ (w : List ℕ). Done clauses start w so (i + 1)) (sym s.0)
      record {
        raises = r.raises;
        covered = one_more mid i c e r.covered
            (omega (arith, greatest-rises start mid (raises-grow clauses start r.raises) c.body, s.1, ap (λ (w : List ℕ). at w c.predicate) s.0));
        change = r.change;
      }

  pub done-raised : (mid now : List ℕ) (so : Pass) (i : ℕ) (c : Clause) → ClauseAt clauses i c → Done clauses start mid so i → Stepped clauses c mid now Raised
      → Done clauses start now Raised (i + 1)
  done-raised mid now so i c e r s = record {
    raises = raises-join clauses start r.raises s.0;
    covered = one_more now i c e
        (λ k b l f. omega (arith, r.covered k b l f, raises-grow clauses mid s.0 b.predicate))
        (omega (arith, greatest-rises start mid (raises-grow clauses start r.raises) c.body, s.1));
    change = (s.2.0, omega (arith, s.2.1, raises-grow clauses start r.raises s.2.0));
  }

  pub done-above : (mid now : List ℕ) (so : Pass) (i : ℕ) (c : Clause) → Done clauses start mid so i → Stepped clauses c mid now Above
      → Passed clauses start now Above
  done-above mid now so i c r s = subst (λ (w : List ℕ). Passed clauses start w Above) (sym s.0) (r.raises, subst (Exceeds clauses) s.0 s.1)

  done-covers : (now : List ℕ) (so : Pass) (i : ℕ) → length clauses ≤ i → Done clauses start now so i → Covers clauses start now
  done-covers now so i z r = covers-all clauses start now (λ k c e. r.covered k c (omega (arith, at-below clauses k c e)) e)

  pub done_end : (now : List ℕ) (so : Pass) (i : ℕ) → length clauses ≤ i → Done clauses start now so i → Passed clauses start now so
  done_end now Same i z r = (r.change, done-covers now Same i z r)
  done_end now Raised i z r = (r.raises, done-covers now Raised i z r, r.change)
  done_end now Above i z r = absurd r.change

-- ONE CLAUSE
module _ (clauses : List Clause) (words : List ℕ) (i : ℕ) (c : Clause) (e : ClauseAt clauses i c) (v p : ℕ)
    (q : v ≡ greatest (number words) c.body) (s : p ≡ c.predicate) where
  pub step_same : v ≤ at words p → Stepped clauses c words words Same
  step_same h = (refl, omega (arith, ap (at words) s))

  pub step-above : p < length words → at words p < v → 4096 < v → Stepped clauses c words words Above
  step-above z h k =
      let r = above_from clauses words i c v e q (omega (arith, ap (at words) s)) in
      (refl, (c.predicate, r.0, r.1, omega arith, omega (arith, ap (at words) s, r.2), omega (arith, r.2)))

  pub step-raised : p < length words → at words p < v → Stepped clauses c words (set words p v) Raised
  step-raised z h =
      let r = above_from clauses words i c v e q (omega (arith, ap (at words) s)) in
      let big : at words c.predicate < number words r.0 = omega (arith, ap (at words) s, r.2) in
      let up = more {ws = words} c.predicate r.0 none (omega arith) r.1 big in
      let same : set words p v ≡ set words c.predicate (number words r.0) = ap (λ x. set words x v) s ∙ ap (set words c.predicate) r.2 in
      (rw same up, omega (arith, ap (at (set words p v)) s, at_same words p v z), (p, omega (arith, at_same words p v z)))

-- The words are the numbers of the ranks in them; all 0, those of a circular predicate.
pub words-numbers : (t : Telling) (ws : List ℕ) → length ws ≡ 4096 → ((i : ℕ) → at ws i ≡ rank_of t i) → ws ≡ numbers t 4096
words-numbers t ws h z = ext_get_or 0 ws (numbers t 4096) (h ∙ sym (numbers-many t 4096)) (λ i l. z i ∙ sym (numbers-at t 4096 i (omega arith)))
