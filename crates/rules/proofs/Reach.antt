-- Reaching: what is computed is what is reached, for every list of clauses and of literals; and what holds of all that is reached.
use Prim.Native.Nat.{ℕ, zero, suc, ◌<◌}
use mathlib.Core.Path.{◌≡◌, refl, sym, ◌∙◌, ap, subst}
use mathlib.Core.Logic.{◌↔◌, inl, inr}
use mathlib.Core.Bool.{Bool, true, false, ◌||◌, true≢false, false≢true}
use mathlib.Core.List.Memᴰ
use mathlib.Core.List.{List, [], ◌∷◌, Memᴰ}
use native.Mathlib.Omega.{arith}
use lib.ListN.{length}
use Rattle.rules.specs.Syntax.{Literal, Clause}
use Rattle.rules.specs.Goals.{member, appearing}
use Rattle.rules.specs.Rights.{predicates, ReachesBy, named, onward, Reaches, pass, passes, reached, barred, any_barred}
use Rattle.rules.proofs.NumberingLaws.{In, or_cases, or_later_lem, member-in, in-member, appearing-keeps, appearing-finds, appearing-only}

-- WHAT HOLDS OF ALL THAT IS REACHED
-- A property that goes from the head of each clause, where it may be passed, to the predicates of its body.
abbrev pub Spreads : (ℕ → Type 0) → List Clause → (ℕ → Type 0) → Type 0
Spreads passed clauses P = (c : Clause) → Memᴰ c clauses → passed c.predicate → P c.predicate → (p : ℕ) → In p (predicates c.body) → P p

module _ (passed : ℕ → Type 0) (clauses : List Clause) (starts : List Literal) where
  pub reaches_all : (P : ℕ → Type 0) → ((p : ℕ) → In p (predicates starts) → P p) → Spreads passed clauses P
      → {p : ℕ} → ReachesBy passed clauses starts p → P p
  reaches_all P h k (named {p} m) = h p m
  reaches_all P h k (onward {c} {p} r a m b) = k c m a (reaches_all P h k r) p b

-- ONE PASS
-- Every number of a list is in another.
abbrev Within : List ℕ → List ℕ → Type 0
Within xs ys = (p : ℕ) → In p xs → In p ys

abbrev Whatever : ℕ → Type 0
Whatever p = Unit {0}

-- A clause's head is seen, and its body is seen after it; or the clause is passed over.
data Passing (c : Clause) (cs : List Clause) (seen : List ℕ) : Type 0 where
  fires : In c.predicate seen → pass (c ∷ cs) seen ≡ pass cs (appearing seen (predicates c.body)) → Passing c cs seen
  waits : ¬ In c.predicate seen → pass (c ∷ cs) seen ≡ pass cs seen → Passing c cs seen

not_in : (p : ℕ) (seen : List ℕ) → member p seen ≡ false → ¬ In p seen
not_in p seen e h = true≢false (sym (in-member p h) ∙ e)

passing : (c : Clause) (cs : List Clause) (seen : List ℕ) → Passing c cs seen
unfolding pass
passing c cs seen = go (member c.predicate seen) refl
  where
    go : (b : Bool) → member c.predicate seen ≡ b → Passing c cs seen
    go true e = fires (member-in c.predicate seen e) (rw (e, pass))
    go false e = waits (not_in c.predicate seen e) (rw (e, pass))

pass-keeps : (cs : List Clause) (seen : List ℕ) → Within seen (pass cs seen)
unfolding pass
pass-keeps [] seen p h = h
pass-keeps (c ∷ cs) seen p h = go (passing c cs seen) (λ s. pass-keeps cs s p)
  where
    go : Passing c cs seen → ((s : List ℕ) → In p s → In p (pass cs s)) → In p (pass (c ∷ cs) seen)
    go (fires k e) later = rw e (later _ (appearing-keeps p (predicates c.body) h))
    go (waits k e) later = rw e (later _ h)

-- The bodies of all clauses are seen whose heads were seen before.
pass-finds : {c : Clause} {cs : List Clause} (seen : List ℕ) → Memᴰ c cs → In c.predicate seen → Within (predicates c.body) (pass cs seen)
pass-finds {c} seen (Memᴰ.head {x = d} {xs = cs} e) h p m = go (passing d cs seen)
  where
    go : Passing d cs seen → In p (pass (d ∷ cs) seen)
    go (fires k r) = rw r (pass-keeps cs _ p (appearing-finds p seen (subst (λ (x : Clause). In p (predicates x.body)) e m)))
    go (waits k r) = absurd (k (subst (λ (x : Clause). In x.predicate seen) e h))
pass-finds {c} seen (Memᴰ.tail {x = d} {xs = cs} i) h p m = go (passing d cs seen) (λ s k. pass-finds s i k p m)
  where
    go : Passing d cs seen → ((s : List ℕ) → In c.predicate s → In p (pass cs s)) → In p (pass (d ∷ cs) seen)
    go (fires k r) later = rw r (later _ (appearing-keeps c.predicate (predicates d.body) h))
    go (waits k r) later = rw r (later seen h)

-- A property that spreads holds of all that is seen after a pass, if it holds of all that was seen before.
pass-only : (P : ℕ → Type 0) (cs : List Clause) → Spreads Whatever cs P → (seen : List ℕ) → ((p : ℕ) → In p seen → P p)
    → (p : ℕ) → In p (pass cs seen) → P p
unfolding pass
pass-only P [] k seen h p m = h p m
pass-only P (c ∷ cs) k seen h p m = go (passing c cs seen) (λ s g. pass-only P cs (λ d i. k d (Memᴰ.tail i)) s g p)
  where
    body : In c.predicate seen → (q : ℕ) → In q (appearing seen (predicates c.body)) → P q
    body a q i = elim (appearing-only q seen (predicates c.body) i) [
      | inl j ↦ h q j
      | inr j ↦ k c (Memᴰ.head refl) tt (h c.predicate a) q j
    ]

    go : Passing c cs seen → ((s : List ℕ) → ((q : ℕ) → In q s → P q) → In p (pass cs s) → P p) → P p
    go (fires a e) later = later _ (body a) (rw e at m)
    go (waits a e) later = later seen h (rw e at m)

-- ENOUGH PASSES
-- A list is closed if the body of each clause is in it whose head is.
abbrev Closed : List Clause → List ℕ → Type 0
Closed clauses seen = Spreads Whatever clauses (λ p. In p seen)

-- The number of clauses whose heads are not seen.
abbrev waiting : List Clause → List ℕ → ℕ
waiting [] seen = 0
waiting (c ∷ cs) seen = elim (member c.predicate seen) [ true ↦ waiting cs seen | false ↦ suc (waiting cs seen) ]

waiting-one : (c : Clause) (cs : List Clause) (seen : List ℕ) (b : Bool) → member c.predicate seen ≡ b
    → waiting (c ∷ cs) seen ≡ (elim b as (λ _. ℕ) [ true ↦ waiting cs seen | false ↦ suc (waiting cs seen) ])
waiting-one c cs seen b e = rw (e, waiting)

-- Where more is seen, fewer clauses wait, or the same.
data Fewer (cs : List Clause) (seen more : List ℕ) : Type 0 where
  fewer : waiting cs more < waiting cs seen → Fewer cs seen more
  same : waiting cs more ≡ waiting cs seen → ((c : Clause) → Memᴰ c cs → In c.predicate more → In c.predicate seen) → Fewer cs seen more

compare : (cs : List Clause) (seen more : List ℕ) → Within seen more → Fewer cs seen more
compare [] seen more w = same refl (λ c i h. absurd (Memᴰ.not-nil i))
compare (c ∷ cs) seen more w = go (member c.predicate seen) (member c.predicate more) refl refl (compare cs seen more w)
  where
    go : (a b : Bool) → member c.predicate seen ≡ a → member c.predicate more ≡ b → Fewer cs seen more → Fewer (c ∷ cs) seen more
    go true true e f (fewer h) = fewer (omega (arith, waiting-one c cs seen true e, waiting-one c cs more true f))
    go true true e f (same q h) = same (omega (arith, waiting-one c cs seen true e, waiting-one c cs more true f)) (λ d i k. elim (Memᴰ.cases_cons i) [
      | inl j ↦ subst (λ (x : Clause). In x.predicate seen) (sym j) (member-in c.predicate seen e)
      | inr j ↦ h d j k
    ])
    go true false e f r = absurd (not_in c.predicate more f (w c.predicate (member-in c.predicate seen e)))
    go false true e f (fewer h) = fewer (omega (arith, waiting-one c cs seen false e, waiting-one c cs more true f))
    go false true e f (same q h) = fewer (omega (arith, waiting-one c cs seen false e, waiting-one c cs more true f))
    go false false e f (fewer h) = fewer (omega (arith, waiting-one c cs seen false e, waiting-one c cs more false f))
    go false false e f (same q h) = same (omega (arith, waiting-one c cs seen false e, waiting-one c cs more false f)) (λ d i k. elim (Memᴰ.cases_cons i) [
      | inl j ↦ absurd (not_in c.predicate more f (subst (λ (x : Clause). In x.predicate more) j k))
      | inr j ↦ h d j k
    ])

passes-closed : (clauses : List Clause) (n : ℕ) (seen : List ℕ) → Closed clauses seen → Closed clauses (passes n clauses seen)
unfolding passes
passes-closed clauses zero seen k = k
passes-closed clauses (suc n) seen k = passes-closed clauses n (pass clauses seen) (λ c i a h p m.
    pass-keeps clauses seen p (k c i tt (pass-only (λ q. In q seen) clauses k seen (λ q j. j) c.predicate h) p m))

passes-close : (clauses : List Clause) (n : ℕ) (seen : List ℕ) → waiting clauses seen < n → Closed clauses (passes n clauses seen)
unfolding passes
passes-close clauses zero seen h = absurd (omega arith)
passes-close clauses (suc n) seen h = go (compare clauses seen (pass clauses seen) (pass-keeps clauses seen)) (passes-close clauses n (pass clauses seen))
  where
    go : Fewer clauses seen (pass clauses seen) → (waiting clauses (pass clauses seen) < n → Closed clauses (passes n clauses (pass clauses seen)))
        → Closed clauses (passes n clauses (pass clauses seen))
    go (fewer k) later = later (omega arith)
    go (same q k) later = passes-closed clauses n (pass clauses seen) (λ c i a b p m. pass-finds seen i (k c i b) p m)

waiting-all : (cs : List Clause) → waiting cs [] ≡ length cs
unfolding member
waiting-all [] = refl
waiting-all (c ∷ cs) = ap suc (waiting-all cs)

passes-keep : (clauses : List Clause) (n : ℕ) (seen : List ℕ) → Within seen (passes n clauses seen)
unfolding passes
passes-keep clauses zero seen p h = h
passes-keep clauses (suc n) seen p h = passes-keep clauses n (pass clauses seen) p (pass-keeps clauses seen p h)

passes-only : (P : ℕ → Type 0) (clauses : List Clause) → Spreads Whatever clauses P → (n : ℕ) (seen : List ℕ) → ((p : ℕ) → In p seen → P p)
    → (p : ℕ) → In p (passes n clauses seen) → P p
unfolding passes
passes-only P clauses k zero seen h = h
passes-only P clauses k (suc n) seen h = passes-only P clauses k n (pass clauses seen) (pass-only P clauses k seen h)

module _ (clauses : List Clause) (starts : List Literal) where
  pub reached-closed : Closed clauses (reached clauses starts)
  unfolding reached
  reached-closed = go (compare clauses [] (predicates starts) (λ p h. absurd (Memᴰ.not-nil h)))
    where
      go : Fewer clauses [] (predicates starts) → Closed clauses (passes (length clauses) clauses (predicates starts))
      go (fewer h) = passes-close clauses (length clauses) (predicates starts) (rw (waiting-all clauses) at h)
      go (same q h) = passes-closed clauses (length clauses) (predicates starts) (λ c i a b p m. absurd (Memᴰ.not-nil (h c i b)))

  -- WHAT IS COMPUTED IS WHAT IS REACHED.
  pub reached-is : (p : ℕ) → In p (reached clauses starts) ↔ Reaches clauses starts p
  unfolding reached
  reached-is p = (
    passes-only (Reaches clauses starts) clauses (λ c i a r q m. onward r tt i m) (length clauses) (predicates starts) (λ q m. named m) p,
    reaches_all Whatever clauses starts (λ q. In q (reached clauses starts)) (passes-keep clauses (length clauses) (predicates starts)) reached-closed,
  )

-- BARRED
pub record ReachesBarred (passed : ℕ → Type 0) (clauses : List Clause) (bars : List ℕ) (starts : List Literal) : Type 0 where
  pub predicate : ℕ
  pub reaches : ReachesBy passed clauses starts predicate
  pub is_barred : barred bars predicate ≡ true

pub any_some : (bars ps : List ℕ) → any_barred bars ps ≡ true → (p : ℕ) × In p ps × (barred bars p ≡ true)
unfolding any_barred
any_some bars [] e = absurd (false≢true e)
any_some bars (p ∷ ps) e = elim (or_cases (barred bars p) (any_barred bars ps) e) [
  | inl h ↦ (p, Memᴰ.head refl, h)
  | inr h ↦ let r = any_some bars ps h in (r.0, Memᴰ.tail r.1, r.2)
]

pub some-any : (bars : List ℕ) {p : ℕ} {ps : List ℕ} → In p ps → barred bars p ≡ true → any_barred bars ps ≡ true
unfolding any_barred
some-any bars (Memᴰ.head {x = q} {xs = ps} e) h = ap (λ b. b || any_barred bars ps) (ap (barred bars) (sym e) ∙ h)
some-any bars (Memᴰ.tail {x = q} {xs = ps} i) h = or_later_lem (barred bars q) (any_barred bars ps) (some-any bars i h)

-- The check of refusal 16 says whether a barred predicate is reached.
pub barred-reached : (clauses : List Clause) (bars : List ℕ) (starts : List Literal)
    → (any_barred bars (reached clauses starts) ≡ true) ↔ ReachesBarred (λ q. Unit {0}) clauses bars starts
barred-reached clauses bars starts = (
  λ e. let r = any_some bars (reached clauses starts) e in record { predicate = r.0; reaches = (reached-is clauses starts r.0).0 r.1; is_barred = r.2 },
  λ r. some-any bars ((reached-is clauses starts r.predicate).1 r.reaches) r.is_barred,
)

-- For code: whatever is marked, if the starting literals' predicates are, if marks go from head to body, and if only what is reached is marked,
-- then to find a barred predicate among the marked ones is to give the check's answer.
pub marks-decide :
    (clauses : List Clause) (bars : List ℕ) (starts : List Literal) (Marked : ℕ → Type 0)
    → ((p : ℕ) → In p (predicates starts) → Marked p) → Spreads (λ q. Unit {0}) clauses Marked → ((p : ℕ) → Marked p → Reaches clauses starts p)
    → (b : Bool) → (b ≡ true → (p : ℕ) × Marked p × (barred bars p ≡ true)) → (b ≡ false → (p : ℕ) → Marked p → barred bars p ≡ false)
    → any_barred bars (reached clauses starts) ≡ b
marks-decide clauses bars starts Marked s k only true found none =
    let f = found refl in (barred-reached clauses bars starts).1 (record { predicate = f.0; reaches = only f.0 f.1; is_barred = f.2 })
marks-decide clauses bars starts Marked s k only false found none = go (any_barred bars (reached clauses starts)) refl
  where
    go : (b : Bool) → any_barred bars (reached clauses starts) ≡ b → b ≡ false
    go false e = refl
    go true e =
        let r = (barred-reached clauses bars starts).0 e in
        sym r.is_barred ∙ none refl r.predicate (reaches_all (λ q. Unit {0}) clauses starts Marked s k r.reaches)
