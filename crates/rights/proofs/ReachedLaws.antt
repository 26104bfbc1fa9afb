-- What the clauses about a predicate name, and all that is reached. Assumes nothing.
use Prim.Native.Nat.{ℕ, zero, suc, ◌+◌, ◌-◌, ◌≤◌, ◌<◌}
use mathlib.Core.Path.{◌≡◌, refl, ap, sym, ◌∙◌, subst}
use mathlib.Core.Logic.{◌⊎◌, inl, inr}
use mathlib.Core.Bool.{Bool, true, false}
use mathlib.Core.Option.{none}
use mathlib.Core.List.Memᴰ
use mathlib.Core.List.{List, [], ◌∷◌, ◌++◌, Memᴰ}
use native.Mathlib.Omega.{arith}
use native.Mathlib.Decide.{ℕ_discrete}
use lib.ListN.{length, get_or, take, drop, length-append}
use denote.Ref.{Bor}
use Rattle.std.specs.Prelude.{Option, Some, None, MatchOption}
use Rattle.std.specs.Option.{option_copied}
use Rattle.std.specs.List.{HoldsAt}
use Rattle.rules.specs.Terms.{nil}
use Rattle.rules.specs.Syntax.{Literal, Clause, Deck}
use Rattle.rules.specs.Refusals.{accepted}
use Rattle.rules.specs.Decks.{write_clause, symbol_words, open_deck}
use Rattle.rules.specs.Goals.{appearing}
use Rattle.rules.specs.Resolution.{clauses_about, has_rows, row_of, tried_by, tried}
use Rattle.rules.specs.WellFormed.{WfClause}
use Rattle.rules.proofs.ListLaws.{in_all}
use Rattle.rules.proofs.NumberingLaws.{In, appearing-extends, appearing-keeps, appearing-finds, appearing-only}
use Rattle.rules.proofs.DeckLaws.{opened-written}
use Rattle.clauses.proofs.GroupLaws.{symbols-counted, about-none, about-here, about-other}
use Rattle.rules.specs.Syntax.{predicate_of}
use Rattle.rules.specs.Ranks.{bodies, rests_on}
use Rattle.rules.specs.Rights.{predicates, named, onward, Reaches}
use Rattle.rights.specs.Reached.{Within, AllReached}
use Rattle.rights.proofs.NamedLaws.{body-names, named-below}
use Rattle.rules.proofs.Reach.{reaches_all}

-- A literal without arguments tries all clauses.
pub tried-all : (cs : List Clause) → tried nil cs ≡ cs
unfolding tried tried_by row_of
tried-all cs = go (has_rows cs)
  where
    go : (b : Bool) → tried_by b (row_of nil) cs ≡ cs
    go true = refl
    go false = refl

-- BODIES
pub predicates-join : (ls ks : List Literal) → predicates (ls ++ ks) ≡ predicates ls ++ predicates ks
predicates-join [] ks = refl
predicates-join (l ∷ ls) ks = ap (predicate_of l ∷◌) (predicates-join ls ks)

pub bodies-next : (c : Clause) (cs : List Clause) → predicates (bodies (c ∷ cs)) ≡ predicates c.body ++ predicates (bodies cs)
bodies-next c cs = predicates-join c.body (bodies cs)

-- A clause about p whose body names q.
pub record NamedIn (clauses : List Clause) (p q : ℕ) : Type 0 where
  pub clause : Clause
  pub among : Memᴰ clause clauses
  pub is_about : clause.predicate ≡ p
  pub names : In q (predicates clause.body)

named-later : (c : Clause) (cs : List Clause) (p q : ℕ) → NamedIn cs p q → NamedIn (c ∷ cs) p q
named-later c cs p q n = record { clause = n.clause; among = Memᴰ.tail n.among; is_about = n.is_about; names = n.names }

bodies-name : (clauses : List Clause) (p q : ℕ) → In q (predicates (bodies (clauses_about p clauses))) → NamedIn clauses p q
bodies-name [] p q i = absurd (Memᴰ.not-nil (rw (about-none p) at i))
bodies-name (c ∷ cs) p q i = go (ℕ_discrete c.predicate p) i (bodies-name cs p q)
  where
    go : Dec (c.predicate ≡ p) → In q (predicates (bodies (clauses_about p (c ∷ cs)))) → (In q (predicates (bodies (clauses_about p cs))) → NamedIn cs p q) → NamedIn (c ∷ cs) p q
    go (yes e) i later =
        elim (Memᴰ.append_cases (predicates c.body) (subst (In q) (ap (λ x. predicates (bodies x)) (about-here p c cs e) ∙ bodies-next c (clauses_about p cs)) i)) [
          | inl j ↦ record { clause = c; among = Memᴰ.head refl; is_about = e; names = j }
          | inr j ↦ named-later c cs p q (later j)
        ]
    go (no e) i later = named-later c cs p q (later (rw (about-other p c cs e) at i))

name-bodies : (clauses : List Clause) (p q : ℕ) (c : Clause) → Memᴰ c clauses → c.predicate ≡ p → In q (predicates c.body) → In q (predicates (bodies (clauses_about p clauses)))
name-bodies [] p q c m e i = absurd (Memᴰ.not-nil m)
name-bodies (b ∷ cs) p q c m e i = go (ℕ_discrete b.predicate p) (Memᴰ.cases_cons m) (λ k. name-bodies cs p q c k e i)
  where
    go : Dec (b.predicate ≡ p) → (c ≡ b) ⊎ Memᴰ c cs → (Memᴰ c cs → In q (predicates (bodies (clauses_about p cs)))) → In q (predicates (bodies (clauses_about p (b ∷ cs))))
    go (yes f) (inl k) later =
        subst (In q) (sym (ap (λ x. predicates (bodies x)) (about-here p b cs f) ∙ bodies-next b (clauses_about p cs)))
        (Memᴰ.append_left (predicates (bodies (clauses_about p cs))) (subst (λ (x : Clause). In q (predicates x.body)) k i))
    go (yes f) (inr k) later =
        subst (In q) (sym (ap (λ x. predicates (bodies x)) (about-here p b cs f) ∙ bodies-next b (clauses_about p cs))) (Memᴰ.append_right (predicates b.body) (later k))
    go (no f) (inl k) later = absurd (f (ap (λ (x : Clause). x.predicate) (sym k) ∙ e))
    go (no f) (inr k) later = rw (about-other p b cs f) (later k)

pub rests-name : (clauses : List Clause) (p q : ℕ) → In q (predicates (rests_on clauses p)) → NamedIn clauses p q
unfolding rests_on
rests-name = bodies-name

pub name-rests : (clauses : List Clause) (p q : ℕ) → NamedIn clauses p q → In q (predicates (rests_on clauses p))
unfolding rests_on
name-rests clauses p q n = name-bodies clauses p q n.clause n.among n.is_about n.names

-- What is named is one of the symbols.
pub rests-below : (ws : List ℕ) (d : Deck) → open_deck ws ≡ accepted d → (p q : ℕ) → In q (predicates (rests_on d.clauses p)) → q < length (symbol_words ws)
rests-below ws d e p q i =
    let n = rests-name d.clauses p q i in
    let w = in_all (WfClause d.symbols) d.clauses (opened-written ws d e).1.clauses n.clause n.among in
    let b = named-below d.symbols (drop 1 (write_clause n.clause)) q (subst (In q) (sym (body-names d.symbols n.clause w)) n.names) in
    omega (arith, b, symbols-counted ws d e)

-- PLACES
pub at-place : (list : List ℕ) (j : ℕ) → j < length list → In (get_or list j 0) list
at-place [] j h = absurd (omega arith)
at-place (x ∷ list) zero h = Memᴰ.head refl
at-place (x ∷ list) (suc j) h = Memᴰ.tail (at-place list j (omega arith))

place-of : (q : ℕ) {list : List ℕ} → In q list → (j : ℕ) × (j < length list) × (get_or list j 0 ≡ q)
place-of q (Memᴰ.head e) = (0, omega arith, sym e)
place-of q (Memᴰ.tail i) = let r = place-of q i in (suc r.0, omega (arith, r.1), r.2)

get-front : (xs ys : List ℕ) (j : ℕ) → j < length xs → get_or (xs ++ ys) j 0 ≡ get_or xs j 0
get-front [] ys j h = absurd (omega arith)
get-front (x ∷ xs) ys zero h = refl
get-front (x ∷ xs) ys (suc j) h = get-front xs ys j (omega arith)

-- ALL THAT IS REACHED: the list begins with what the literals name; what the bodies name of the first `at` is in it.
pub record Spreading (clauses : List Clause) (starts : List Literal) (list : List ℕ) (at : ℕ) : Type 0 where
  pub first : (q : ℕ) → In q (predicates starts) → In q list
  pub done : (j q : ℕ) → j < at → In q (predicates (rests_on clauses (get_or list j 0))) → In q list
  pub only : (q : ℕ) → In q list → Reaches clauses starts q

module _ (clauses : List Clause) (starts : List Literal) where
  pub spread-none : (list : List ℕ) → list ≡ appearing [] (predicates starts) → Spreading clauses starts list 0
  spread-none list e = record {
    first = λ q i. subst (In q) (sym e) (appearing-finds q [] i);
    done = λ j q h i. absurd (omega arith);
    only = λ q i. elim (appearing-only q [] (predicates starts) (subst (In q) e i)) [ inl j ↦ absurd (Memᴰ.not-nil j) | inr j ↦ named j ];
  }

  module _ (list : List ℕ) (at p : ℕ) (h : at < length list) (e : p ≡ get_or list at 0) (list' : List ℕ) (f : list' ≡ appearing list (predicates (rests_on clauses p))) where
    pub longer : at + 1 ≤ length list'
    longer = let r = appearing-extends list (predicates (rests_on clauses p)) in omega (arith, ap length (f ∙ r.1), length-append list r.0)

    same : (j : ℕ) → j < length list → get_or list' j 0 ≡ get_or list j 0
    same j l = let r = appearing-extends list (predicates (rests_on clauses p)) in ap (λ x. get_or x j 0) (f ∙ r.1) ∙ get-front list r.0 j l

    kept : (q : ℕ) → In q list → In q list'
    kept q i = subst (In q) (sym f) (appearing-keeps q (predicates (rests_on clauses p)) i)

    pub added : (q : ℕ) → In q list' → In q list ⊎ In q (predicates (rests_on clauses p))
    added q i = appearing-only q list (predicates (rests_on clauses p)) (subst (In q) f i)

    pub spread-more : Spreading clauses starts list at → at ≤ length list → Spreading clauses starts list' (at + 1)
    spread-more s l = record {
      first = λ q i. kept q (s.first q i);
      done = λ j q k i. done j q k i (ℕ_discrete j at);
      only = λ q i. elim (added q i) [ inl j ↦ s.only q j | inr j ↦ only q (rests-name clauses p q j) ];
    }
      where
        done : (j q : ℕ) → j < at + 1 → In q (predicates (rests_on clauses (get_or list' j 0))) → Dec (j ≡ at) → In q list'
        done j q k i (yes z) =
            let g : get_or list' j 0 ≡ p = same j (omega arith) ∙ ap (λ x. get_or list x 0) z ∙ sym e in
            subst (In q) (sym f) (appearing-finds q list (subst (λ x. In q (predicates (rests_on clauses x))) g i))
        done j q k i (no z) = kept q (s.done j q (omega arith) (subst (λ x. In q (predicates (rests_on clauses x))) (same j (omega arith)) i))

        only : (q : ℕ) → NamedIn clauses p q → Reaches clauses starts q
        only q n =
            let r : Reaches clauses starts p = s.only p (subst (λ x. In x list) (sym e) (at-place list at h)) in
            onward (subst (λ x. Reaches clauses starts x) (sym n.is_about) r) tt n.among n.names

  pub spread-all : (list : List ℕ) (at : ℕ) → Spreading clauses starts list at → length list ≤ at → AllReached clauses starts list
  spread-all list at s h = record { each = λ q. (s.only q, reaches_all (λ x. Unit {0}) clauses starts (λ x. In x list) s.first (λ c m t i q k. closed c m i q k)) }
    where
      closed : (c : Clause) → Memᴰ c clauses → In c.predicate list → (q : ℕ) → In q (predicates c.body) → In q list
      closed c m i q k =
          let j = place-of c.predicate i in
          s.done j.0 q (omega (arith, j.1)) (name-rests clauses (get_or list j.0 0) q (record { clause = c; among = m; is_about = sym j.2; names = k }))

-- The list stays within the symbols.
pub within-more : (ws : List ℕ) (d : Deck) → open_deck ws ≡ accepted d → (list : List ℕ) (p : ℕ) (list' : List ℕ) → list' ≡ appearing list (predicates (rests_on d.clauses p))
    → Within (length (symbol_words ws)) list → Within (length (symbol_words ws)) list'
within-more ws d e list p list' f w = record {
  each = λ q i. elim (appearing-only q list (predicates (rests_on d.clauses p)) (subst (In q) f i)) [ inl j ↦ w.each q j | inr j ↦ rests-below ws d e p q j ];
}

pub bodies-rest : (clauses : List Clause) (p : ℕ) → bodies (clauses_about p clauses) ≡ rests_on clauses p
unfolding rests_on
bodies-rest clauses p = refl

pub row-nil : none ≡ row_of nil
unfolding row_of
row-nil = refl

pub tail-whole : (xs : List ℕ) → take (length xs - 1) (drop 1 xs) ≡ drop 1 xs
tail-whole [] = refl
tail-whole (x ∷ xs) = let z : suc (length xs) - 1 ≡ length xs = omega arith in rw z (whole xs)
  where
    whole : (ys : List ℕ) → take (length ys) ys ≡ ys
    whole [] = refl
    whole (y ∷ ys) = ap (y ∷◌) (whole ys)

-- The entry at a place, copied out.
pub looked_up : (list part : List ℕ) (at : ℕ) (g : Option (Bor ℕ)) → part ≡ list → MatchOption g (length part ≤ at) (λ x. (at < length part) × HoldsAt (λ y. x.now ≡ y) part at)
    → (o : Option ℕ) → o ≡ option_copied g → MatchOption o (length list ≤ at) (λ p. (at < length list) × (p ≡ get_or list at 0))
looked_up list part at None s m o e = rw (e, sym s) m
looked_up list part at (Some x) s m o e = rw (e, sym s) (m.0, m.1 0)
