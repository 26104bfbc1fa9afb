-- Refusals 15 and 16 by what the code tests. Assumes nothing.
use Prim.Native.Nat.{ℕ, ◌<◌}
use mathlib.Core.Path.{◌≡◌, refl, ap, sym, ◌∙◌, subst}
use mathlib.Core.Logic.{inl, inr}
use mathlib.Core.Bool.{Bool, true, false}
use mathlib.Core.List.Memᴰ
use mathlib.Core.List.{List, [], ◌∷◌}
use native.Mathlib.Omega.{arith}
use lib.ListN.{length}
use Rattle.rules.specs.Syntax.{Symbol, Literal, Deck}
use Rattle.rules.specs.Refusals.{accepted, and_then, require, checked_number}
use Rattle.rules.specs.Decks.{symbol_words, open_deck, read_query}
use Rattle.rules.specs.Goals.{Marked, unmarked, first_goal, goal_cells, appearing}
use Rattle.rules.specs.WellFormed.{All, WfMarked}
use Rattle.rules.specs.Rights.{predicates, literals_of, bars_fit, any_barred, reached, check_rights}
use Rattle.rules.proofs.NumberingLaws.{In, appearing-only}
use Rattle.rules.proofs.DeckLaws.{query-reads}
use Rattle.rules.proofs.Reach.{reached-is, any_some, some-any}
use Rattle.rules.proofs.ClosedSites.{first-starts}
use Rattle.deck.specs.Kinds.{symbols_of}
use Rattle.deck.proofs.OpenLaws.{accepted-symbols}
use Rattle.rights.specs.Named.{named}
use Rattle.rights.specs.Reached.{Within, AllReached, AreGoals}
use Rattle.rights.proofs.NamedLaws.{literals-named, goal-names, named-below}
use Rattle.rights.proofs.BarLaws.{symbols-many}
use Rattle.rights.proofs.ReachedLaws.{predicates-join}

-- Whether one of them is barred depends on which they are alone.
same-any : (bars ps qs : List ℕ) → ((p : ℕ) → In p ps → In p qs) → ((p : ℕ) → In p qs → In p ps) → any_barred bars ps ≡ any_barred bars qs
same-any bars ps qs f g = go (any_barred bars ps) (any_barred bars qs) refl refl
  where
    go : (b c : Bool) → any_barred bars ps ≡ b → any_barred bars qs ≡ c → b ≡ c
    go true true e h = refl
    go false false e h = refl
    go true false e h = let r = any_some bars ps e in sym (some-any bars (f r.0 r.1) r.2) ∙ h
    go false true e h = let r = any_some bars qs h in sym e ∙ some-any bars (g r.0 r.1) r.2

pub barred-found : (d : Deck) (starts : List Literal) (bars list : List ℕ) → AllReached d.clauses starts list → any_barred bars list ≡ any_barred bars (reached d.clauses starts)
barred-found d starts bars list a =
    same-any bars list (reached d.clauses starts) (λ p i. (reached-is d.clauses starts p).1 ((a.each p).0 i)) (λ p i. (a.each p).1 ((reached-is d.clauses starts p).0 i))

-- The numbers.
module _ (d : Deck) (bars : List ℕ) (goals : List Marked) where
  pub number-15 : bars_fit d.symbols bars ≡ false → 15 ≡ checked_number (check_rights d bars goals)
  unfolding check_rights require and_then
  number-15 e = rw (e, check_rights)

  pub number-16 : bars_fit d.symbols bars ≡ true → any_barred bars (reached d.clauses (literals_of goals)) ≡ true → 16 ≡ checked_number (check_rights d bars goals)
  unfolding check_rights require and_then
  number-16 e f = rw (e, f, check_rights)

  pub number-0 : bars_fit d.symbols bars ≡ true → any_barred bars (reached d.clauses (literals_of goals)) ≡ false → 0 ≡ checked_number (check_rights d bars goals)
  unfolding check_rights require and_then
  number-0 e f = rw (e, f, check_rights)

-- THE STARTS
module _ (ws : List ℕ) (d : Deck) (e : open_deck ws ≡ accepted d) (symbols : List ℕ) (s : symbols ≡ symbol_words ws) where
  pub symbols-are : symbols_of symbols ≡ d.symbols
  symbols-are = ap symbols_of s ∙ sym (accepted-symbols ws d e)

  pub fits-as : (bars : List ℕ) (b r : Bool) → b ≡ bars_fit (symbols_of symbols) bars → b ≡ r → bars_fit d.symbols bars ≡ r
  fits-as bars b r f t = ap (λ S. bars_fit S bars) (sym symbols-are) ∙ sym f ∙ t

  pub query-starts : (query : List ℕ) (q : List Literal) → read_query d query ≡ accepted q → (list : List ℕ) → list ≡ appearing [] (named (symbols_of symbols) query)
      → list ≡ appearing [] (predicates (literals_of (unmarked (first_goal q ∷ []))))
  query-starts query q r list f =
      let w = query-reads d query q r in
      let same : named (symbols_of symbols) query ≡ predicates q = ap (λ S. named S query) symbols-are ∙ ap (named d.symbols) w.0 ∙ literals-named d.symbols q w.1.literals in
      f ∙ ap (appearing []) (same ∙ ap predicates (sym (first-starts q)))

-- They are within the symbols.
pub named-within : (symbols words list : List ℕ) → list ≡ appearing [] (named (symbols_of symbols) words) → Within (length symbols) list
named-within symbols words list f = record {
  each = λ q i. elim (appearing-only q [] (named (symbols_of symbols) words) (subst (In q) f i)) [
    | inl j ↦ absurd (Memᴰ.not-nil j)
    | inr j ↦ (let b = named-below (symbols_of symbols) words q j in omega (arith, b, symbols-many symbols))
  ];
}

literals-below : (S : List Symbol) (ms : List Marked) → All (WfMarked S) ms → (q : ℕ) → In q (predicates (literals_of ms)) → q < length S
literals-below S [] w q i = absurd (Memᴰ.not-nil i)
literals-below S (m ∷ ms) w q i =
    elim (Memᴰ.append_cases (predicates m.goal.literals) (subst (In q) (predicates-join m.goal.literals (literals_of ms)) i)) [
      | inl j ↦ named-below S (goal_cells m.goal) q (subst (In q) (sym (goal-names S m.goal w.0)) j)
      | inr j ↦ literals-below S ms w.1 q j
    ]

pub goals-within : (symbols goals list : List ℕ) (ms : List Marked) → AreGoals (symbols_of symbols) goals ms → list ≡ appearing [] (predicates (literals_of ms)) → Within (length symbols) list
goals-within symbols goals list ms a f = record {
  each = λ q i. elim (appearing-only q [] (predicates (literals_of ms)) (subst (In q) f i)) [
    | inl j ↦ absurd (Memᴰ.not-nil j)
    | inr j ↦ (let b = literals-below (symbols_of symbols) ms a.formed q j in omega (arith, b, symbols-many symbols))
  ];
}
