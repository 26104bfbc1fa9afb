-- Symbols and their words: those of a deck, written in either format, are read again, and whatever is read was written.
use Prim.Native.Nat.{ℕ, zero, suc, ◌+◌, ◌-◌, ◌*◌, ◌≤◌, ◌<◌}
use mathlib.Core.Path.{◌≡◌, refl, ap, ap₂, sym, ◌∙◌, subst}
use mathlib.Core.Bool.{Bool, true, false, ◌&&◌, ◌||◌, not, and-eq-true_iff}
use mathlib.Core.Option.{Option, none, some, none-ne-some, some-injective}
use mathlib.Core.List.{List, [], ◌∷◌, map}
use native.Mathlib.Omega.{arith}
use lib.ListN.{length, get_or, length-map}
use lib.Dec.{leb, eqb}
use borrow.Author.Tests.{le-leb, lt-leb, leb-true, eqb-true, eq-eqb, ne_eqb}
use Rattle.rules.specs.Syntax.{Symbol, functor, predicate, Format, format1, format2}
use Rattle.rules.specs.Decks.{write_symbol, write_pairs, write_symbols, format_number, symbol_room, read_symbol, kind_word, kind_words, read_value, read_values, numbers, distinct, keep_distinct, read_next, read_all}
use Rattle.rules.specs.Goals.{member}
use Rattle.rules.specs.WellFormed.{All, WfSymbol, WfValues}

pub both : (a b : Bool) → a ≡ true → b ≡ true → (a && b) ≡ true
both a b p q = (and-eq-true_iff a b).1 (p, q)

-- Every element is read as what it was written for, and the other way round.
pub all_read {ℓ κ} :
    {A : Type ℓ} {B : Type κ} (read : A → Option B) (write : B → A) (P : B → Type 0) → ((b : B) → P b → read (write b) ≡ some b) → (bs : List B) → All P bs
    → read_all read (map write bs) ≡ some bs
unfolding read_all read_next
all_read read write P h [] w = refl
all_read read write P h (b ∷ bs) w = ap₂ read_next (h b w.0) (all_read read write P h bs w.1)

pub read_next_lem {κ} : {B : Type κ} (o : Option B) (os : Option (List B)) (bs : List B) → read_next o os ≡ some bs → (b : B) × (bs' : List B) × (o ≡ some b) × (os ≡ some bs') × (b ∷ bs' ≡ bs)
unfolding read_next
read_next_lem none os bs e = absurd (none-ne-some bs e)
read_next_lem (some b) none bs e = absurd (none-ne-some bs e)
read_next_lem (some b) (some bs') bs e = (b, bs', refl, refl, some-injective (b ∷ bs') bs e)

pub all-written {ℓ κ} :
    {A : Type ℓ} {B : Type κ} (read : A → Option B) (write : B → A) (P : B → Type 0) → ((a : A) (b : B) → read a ≡ some b → (a ≡ write b) × P b)
    → (xs : List A) (bs : List B) → read_all read xs ≡ some bs → (xs ≡ map write bs) × All P bs
unfolding read_all
all-written read write P h [] bs e = subst (λ ys. ([] ≡ map write ys) × All P ys) (some-injective [] bs e) (refl, tt)
all-written read write P h (x ∷ xs) bs e =
    let n = read_next_lem (read x) (read_all read xs) bs e in
    let one = h x n.0 n.2 in
    let others = all-written read write P h xs n.1 n.3 in
    subst (λ ys. (x ∷ xs ≡ map write ys) × All P ys) n.4 (ap₂ ◌∷◌ one.0 others.0, (one.1, others.1))

-- Symbols.
pub symbol-read : (s : Symbol) → WfSymbol s → read_symbol (write_symbol s) ≡ some s
unfolding read_symbol write_symbol
symbol-read (functor k) h = rw (le-leb k 15 h, read_symbol) refl
symbol-read (predicate k) h =
    rw (lt-leb (256 + k) 15 (omega arith), both (leb 256 (256 + k)) (leb (256 + k) 271) (le-leb 256 (256 + k) (omega arith)) (le-leb (256 + k) 271 (omega arith)), read_symbol)
    (ap {B = Option Symbol} (λ n. some (predicate n)) (omega arith))

pub symbol-written : (w : ℕ) (s : Symbol) → read_symbol w ≡ some s → (w ≡ write_symbol s) × WfSymbol s
unfolding read_symbol write_symbol
symbol-written w s e = go (leb w 15) (leb 256 w && leb w 271) refl refl
  where
    go : (a b : Bool) → leb w 15 ≡ a → (leb 256 w && leb w 271) ≡ b → (w ≡ write_symbol s) × WfSymbol s
    go true b p q =
        subst (λ x. (w ≡ write_symbol x) × WfSymbol x) (some-injective (functor w) s (sym (rw (p, read_symbol)) ∙ e)) (refl, leb-true w 15 p)
    go false true p q =
        let t = (and-eq-true_iff (leb 256 w) (leb w 271)).0 q in
        let least : 256 ≤ w = leb-true 256 w t.0 in
        let most : w ≤ 271 = leb-true w 271 t.1 in
        subst (λ x. (w ≡ write_symbol x) × WfSymbol x) (some-injective (predicate (w - 256)) s (sym (rw (p, q, read_symbol)) ∙ e)) (omega arith, omega arith)
    go false false p q = absurd (none-ne-some s (sym (rw (p, q, read_symbol)) ∙ e))

-- How many words they take.
pairs-length : (ss : List Symbol) (vs : List (Option ℕ)) → length (write_pairs ss vs) ≡ 2 * length ss
unfolding write_pairs
pairs-length [] vs = refl
pairs-length (s ∷ ss) [] = omega (arith, pairs-length ss [])
pairs-length (s ∷ ss) (none ∷ vs) = omega (arith, pairs-length ss vs)
pairs-length (s ∷ ss) (some v ∷ vs) = omega (arith, pairs-length ss vs)

pub symbols-length : (F : Format) (ss : List Symbol) → length (write_symbols F ss) ≡ symbol_room (format_number F) (length ss)
unfolding write_symbols symbol_room
symbols-length format1 ss = length-map ss write_symbol
symbols-length (format2 vs) ss = pairs-length ss vs

-- No symbol's word is a number's.
no-number : (s : Symbol) → WfSymbol s → eqb (write_symbol s) 512 ≡ false
unfolding write_symbol
no-number (functor k) h = ne_eqb k 512 (λ e. omega (arith, h, e))
no-number (predicate k) h = ne_eqb (256 + k) 512 (λ e. omega (arith, h, e))

-- The two words of a symbol that is no number.
plain-word : (s : Symbol) → WfSymbol s → kind_word (write_symbol s) ≡ write_symbol s
unfolding kind_word
plain-word s h = rw (no-number s h, kind_word) refl

plain-value : (s : Symbol) → WfSymbol s → read_value (write_symbol s) 0 ≡ some none
unfolding read_value
plain-value s h = rw (no-number s h, read_value) refl

pub words-of-pairs : (ss : List Symbol) (vs : List (Option ℕ)) → All WfSymbol ss → WfValues ss vs → kind_words (write_pairs ss vs) ≡ map write_symbol ss
unfolding write_pairs kind_words kind_word write_symbol
words-of-pairs [] vs w h = refl
words-of-pairs (s ∷ ss) [] w h = absurd h
words-of-pairs (s ∷ ss) (none ∷ vs) w h = ap₂ ◌∷◌ (plain-word s w.0) (words-of-pairs ss vs w.1 h)
words-of-pairs (s ∷ ss) (some v ∷ vs) w h = ap₂ ◌∷◌ (ap write_symbol (sym h.0)) (words-of-pairs ss vs w.1 h.1)

pub values-of-pairs : (ss : List Symbol) (vs : List (Option ℕ)) → All WfSymbol ss → WfValues ss vs → read_values (write_pairs ss vs) ≡ some vs
unfolding write_pairs read_values read_value read_next
values-of-pairs [] [] w h = refl
values-of-pairs [] (v ∷ vs) w h = absurd h
values-of-pairs (s ∷ ss) [] w h = absurd h
values-of-pairs (s ∷ ss) (none ∷ vs) w h = ap₂ read_next (plain-value s w.0) (values-of-pairs ss vs w.1 h)
values-of-pairs (s ∷ ss) (some v ∷ vs) w h = ap (read_next (some (some v))) (values-of-pairs ss vs w.1 h.1)

-- Two words that are read, written again.
abbrev PairReads : ℕ → ℕ → Symbol → Option ℕ → Type 0
PairReads w v s none = (w ≡ write_symbol s) × (v ≡ 0)
PairReads w v s (some x) = (w ≡ 512) × (v ≡ x) × (s ≡ functor 0)

pair-written : (w v : ℕ) (s : Symbol) (o : Option ℕ) → read_symbol (kind_word w) ≡ some s → read_value w v ≡ some o → PairReads w v s o × WfSymbol s
unfolding kind_word read_value read_symbol
pair-written w v s o e r = go (eqb w 512) (eqb v 0) refl refl
  where
    go : (a b : Bool) → eqb w 512 ≡ a → eqb v 0 ≡ b → PairReads w v s o × WfSymbol s
    go true b p q =
        let word : read_symbol 0 ≡ some s = rw (p, kind_word) at e in
        let k = symbol-written 0 s word in
        let zeroth : functor 0 ≡ s = some-injective (functor 0) s word in
        subst (λ x. PairReads w v s x × WfSymbol s) (some-injective (some v) o (rw (p, read_value) at r)) ((eqb-true w 512 p, refl, sym zeroth), k.1)
    go false true p q =
        let k = symbol-written w s (rw (p, kind_word) at e) in
        subst (λ x. PairReads w v s x × WfSymbol s) (some-injective none o (rw (p, q, read_value) at r)) ((k.0, eqb-true v 0 q), k.1)
    go false false p q = absurd (none-ne-some o (rw (p, q, read_value) at r))

abbrev PairsRead : List ℕ → List Symbol → List (Option ℕ) → Type 0
PairsRead ws ss vs = (ws ≡ write_pairs ss vs) × All WfSymbol ss × WfValues ss vs

pair-then : (w v : ℕ) (ws : List ℕ) (s : Symbol) (o : Option ℕ) (ss : List Symbol) (vs : List (Option ℕ)) → PairReads w v s o × WfSymbol s → PairsRead ws ss vs → PairsRead (w ∷ v ∷ ws) (s ∷ ss) (o ∷ vs)
unfolding write_pairs
pair-then w v ws s none ss vs k h = (ap₂ ◌∷◌ k.0.0 (ap₂ ◌∷◌ k.0.1 h.0), (k.1, h.1), h.2)
pair-then w v ws s (some x) ss vs k h = (ap₂ ◌∷◌ k.0.0 (ap₂ ◌∷◌ k.0.1 h.0), (k.1, h.1), (k.0.2, h.2))

pub pairs-read : (ws : List ℕ) (ss : List Symbol) (vs : List (Option ℕ)) → read_all read_symbol (kind_words ws) ≡ some ss → read_values ws ≡ some vs → PairsRead ws ss vs
unfolding read_all kind_words read_values write_pairs
pairs-read [] ss vs e r = subst (λ x. PairsRead [] x vs) (some-injective [] ss e) (subst (λ x. PairsRead [] [] x) (some-injective [] vs r) (refl, tt, tt))
pairs-read (w ∷ []) ss vs e r = absurd (none-ne-some vs r)
pairs-read (w ∷ v ∷ ws) ss vs e r =
    let n = read_next_lem (read_symbol (kind_word w)) (read_all read_symbol (kind_words ws)) ss e in
    let m = read_next_lem (read_value w v) (read_values ws) vs r in
    subst (λ x. PairsRead (w ∷ v ∷ ws) x vs) n.4
    (subst (λ x. PairsRead (w ∷ v ∷ ws) (n.0 ∷ n.1) x) m.4
    (pair-then w v ws n.0 m.0 n.1 m.1 (pair-written w v n.0 m.0 n.2 m.2) (pairs-read ws n.1 m.1 n.3 m.3)))

-- No two numbers are equal.
pub kept-distinct : (o : Option (List (Option ℕ))) (F : Format) → keep_distinct o ≡ some F → (vs : List (Option ℕ)) × (o ≡ some vs) × (distinct [] (numbers vs) ≡ true) × (format2 vs ≡ F)
unfolding keep_distinct
kept-distinct none F e = absurd (none-ne-some F e)
kept-distinct (some vs) F e = go (distinct [] (numbers vs)) refl
  where
    go : (b : Bool) → distinct [] (numbers vs) ≡ b → (vs' : List (Option ℕ)) × (some vs ≡ some vs') × (distinct [] (numbers vs') ≡ true) × (format2 vs' ≡ F)
    go true d = (vs, refl, d, some-injective (format2 vs) F (rw (d, keep_distinct) at e))
    go false d = absurd (none-ne-some F (rw (d, keep_distinct) at e))

pub keeps-distinct : (vs : List (Option ℕ)) → distinct [] (numbers vs) ≡ true → keep_distinct (some vs) ≡ some (format2 vs)
unfolding keep_distinct
keeps-distinct vs d = rw (d, keep_distinct) refl

-- WHAT THE CHECK OF VALUES MEANS. Of two numbers in a row the first is not equal to the second, wherever they stand.
module _ where
  not-member : (x : ℕ) (before : List ℕ) (vs : List ℕ) → distinct before vs ≡ true → member x before ≡ true → (i : ℕ) → i < length vs → get_or vs i 0 ≡ x → ⊥
  unfolding distinct member
  not-member x before [] d m i h e = omega arith
  not-member x before (v ∷ vs) d m zero h e =
      let t = (and-eq-true_iff (not (member v before)) (distinct (v ∷ before) vs)).0 d in
      no-both (member x before) m (ap (λ y. not (member y before)) (sym e) ∙ t.0)
    where
      no-both : (b : Bool) → b ≡ true → not b ≡ true → ⊥
      no-both true p q = let z : ◌≡◌ {A = ℕ} 0 1 = cc in omega arith
      no-both false p q = let z : ◌≡◌ {A = ℕ} 0 1 = cc in omega arith
  not-member x before (v ∷ vs) d m (suc i) h e =
      let t = (and-eq-true_iff (not (member v before)) (distinct (v ∷ before) vs)).0 d in
      not-member x (v ∷ before) vs t.1 (later (eqb x v)) i (omega (arith, h)) e
    where
      later : (b : Bool) → (b || member x before) ≡ true
      later true = refl
      later false = m

  pub distinct-apart : (before vs : List ℕ) → distinct before vs ≡ true → (i j : ℕ) → i < j → j < length vs → get_or vs i 0 ≡ get_or vs j 0 → ⊥
  unfolding distinct member
  distinct-apart before [] d i j l h e = omega arith
  distinct-apart before (v ∷ vs) d zero zero l h e = omega arith
  distinct-apart before (v ∷ vs) d (suc i) zero l h e = omega arith
  distinct-apart before (v ∷ vs) d zero (suc j) l h e =
      let t = (and-eq-true_iff (not (member v before)) (distinct (v ∷ before) vs)).0 d in
      not-member v (v ∷ before) vs t.1 (ap (λ b. b || member v before) (eq-eqb v v refl)) j (omega (arith, h)) (sym e)
  distinct-apart before (v ∷ vs) d (suc i) (suc j) l h e =
      let t = (and-eq-true_iff (not (member v before)) (distinct (v ∷ before) vs)).0 d in
      distinct-apart (v ∷ before) vs t.1 i j (omega (arith, l)) (omega (arith, h)) e
