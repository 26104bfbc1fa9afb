-- The table of names: hashes byte by byte, the chain of a bucket, and a name entered.
use Rattle.std.proofs.Common.{◌≡◌, ℕ, zero, suc, ◌+◌, ◌≤◌, ◌<◌, ◌⊎◌, inl, inr, Bool, true, false, List, [], ◌∷◌, ◌++◌, Option, Some, None, length, get_or, set, take, map, refl, ap, ap₂, sym, ◌∙◌, subst, arith, add-one, length-set, get_or-set_same, get_or-set_other}
use lib.Dec.{eqb}
use native.Mathlib.Decide.{dec_lt, ℕ_discrete}
use mathlib.Core.Bool.{and-eq-true_iff}
use borrow.Author.Tests.{eq-eqb, ne_eqb, eqb-true}
use Rattle.std.specs.List.{slice_range}
use Rattle.text_rules.specs.TextGrammar.{same_bytes}
use Rattle.text.specs.declared.names.Entry.{Entry}
use Rattle.text.specs.declared.names.Slot.{Slot}
use Rattle.text.specs.Hash.{hash_of, last_with, found_at, in_bucket, is_name}
use Rattle.std.proofs.lemmas.List.{get_or-map}
use Rattle.text.specs.Names.{Table, bytes_of, name_at, entered, IsSlot, the_table, slot_name, Chained}

-- A number that was found, or none.
abbrev pub one_more : Option ℕ → ℕ
one_more None = 0
one_more (Some k) = suc k

pub one_more-found : (m : ℕ) → one_more (found_at m) ≡ m
one_more-found zero = refl
one_more-found (suc m) = refl

pub found_none : (m : ℕ) → None ≡ found_at m → m ≡ 0
found_none m e = sym (one_more-found m) ∙ ap one_more (sym e)

pub found_some : (m k : ℕ) → Some k ≡ found_at m → m ≡ suc k
found_some m k e = sym (one_more-found m) ∙ ap one_more (sym e)

pub bytes_same : (xs ys : List ℕ) → same_bytes xs ys ≡ true → xs ≡ ys
unfolding same_bytes
bytes_same [] [] e = refl
bytes_same [] (y ∷ ys) e = cc
bytes_same (x ∷ xs) [] e = cc
bytes_same (x ∷ xs) (y ∷ ys) e =
    let b = (and-eq-true_iff (eqb x y) (same_bytes xs ys)).0 e in
    ap₂ ◌∷◌ (eqb-true x y b.0) (bytes_same xs ys b.1)

pub bytes-equal : (xs ys : List ℕ) → xs ≡ ys → same_bytes xs ys ≡ true
unfolding same_bytes
bytes-equal xs ys e = ap (same_bytes xs) (sym e) ∙ go xs
  where
    go : (xs : List ℕ) → same_bytes xs xs ≡ true
    go [] = refl
    go (x ∷ xs) = (and-eq-true_iff (eqb x x) (same_bytes xs xs)).1 (eq-eqb x x refl, go xs)

false-unless : (b : Bool) → (b ≡ true → ⊥) → b ≡ false
false-unless true f = absurd (f refl)
false-unless false f = refl

-- A test that passes only where another does: it is enough to look where that one last passes.
pub look-there : (p q : List ℕ → Bool) (name : ℕ → List ℕ) → ((m : List ℕ) → p m ≡ true → q m ≡ true) → (n : ℕ) → last_with p name n ≡ last_with p name (last_with q name n)
look-there p q name h zero = refl
look-there p q name h (suc n) = go (q (name n)) refl (look-there p q name h n)
  where
    no-p : q (name n) ≡ false → (p (name n)) ≡ false
    no-p e = false-unless (p (name n)) (λ t. let z : ◌≡◌ {A = Bool} true false = sym (h (name n) t) ∙ e in let w : ◌≡◌ {A = ℕ} 0 1 = cc in omega arith)

    go : (b : Bool) → q (name n) ≡ b → last_with p name n ≡ last_with p name (last_with q name n) → last_with p name (suc n) ≡ last_with p name (last_with q name (suc n))
    go true e r = rw (e, last_with) refl
    go false e r = let f = no-p e in rw (e, f, last_with) r

pub last-below : (q : List ℕ → Bool) (name : ℕ → List ℕ) (n : ℕ) → last_with q name n ≤ n
last-below q name zero = omega arith
last-below q name (suc n) = go (q (name n)) refl (last-below q name n)
  where
    go : (b : Bool) → q (name n) ≡ b → last_with q name n ≤ n → last_with q name (suc n) ≤ suc n
    go true e r = rw (e, last_with) (omega arith)
    go false e r = rw (e, last_with) (omega arith)

pub last-passes : (q : List ℕ → Bool) (name : ℕ → List ℕ) (n k : ℕ) → last_with q name n ≡ suc k → q (name k) ≡ true
last-passes q name zero k e = absurd (omega arith)
last-passes q name (suc n) k e = go (q (name n)) refl (last-passes q name n k)
  where
    go : (b : Bool) → q (name n) ≡ b → (last_with q name n ≡ suc k → q (name k) ≡ true) → q (name k) ≡ true
    go true t r = let s : suc n ≡ suc k = rw (t, last_with) at e in let z : n ≡ k = omega arith in rw z at t
    go false t r = r (rw (t, last_with) at e)

pub last-ext : (q : List ℕ → Bool) (name name' : ℕ → List ℕ) (n : ℕ) → ((j : ℕ) → j < n → name j ≡ name' j) → last_with q name n ≡ last_with q name' n
last-ext q name name' zero h = refl
last-ext q name name' (suc n) h = go (q (name n)) refl (ap q (h n (omega arith))) (last-ext q name name' n (λ j l. h j (omega arith)))
  where
    go : (b : Bool) → q (name n) ≡ b → q (name n) ≡ q (name' n) → last_with q name n ≡ last_with q name' n → last_with q name (suc n) ≡ last_with q name' (suc n)
    go true e s r = let f : q (name' n) ≡ true = sym s ∙ e in rw (e, f, last_with) refl
    go false e s r = let f : q (name' n) ≡ false = sym s ∙ e in rw (e, f, last_with) r

-- Looking for a name along the chain of its bucket, from j on.
module _ (name : ℕ → List ℕ) (wanted : List ℕ) (n : ℕ) where
  abbrev bucket : List ℕ → Bool
  bucket = in_bucket (hash_of 0 wanted)

  pub record Chain (j : ℕ) : Type 0 where
    pub bound : ℕ
    pub few : bound ≤ n
    pub here : j ≡ last_with bucket name bound
    pub same : last_with (is_name wanted) name n ≡ last_with (is_name wanted) name j

  in_its_bucket : (m : List ℕ) → is_name wanted m ≡ true → bucket m ≡ true
  in_its_bucket m s = eq-eqb (hash_of 0 m) (hash_of 0 wanted) (ap (hash_of 0) (bytes_same m wanted s))

  pub chain-start : (o : Option ℕ) → o ≡ found_at (last_with bucket name n) → Chain (one_more o)
  chain-start o e =
      let s : one_more o ≡ last_with bucket name n = ap one_more e ∙ one_more-found (last_with bucket name n) in
      record {
        bound = n;
        few = omega arith;
        here = s;
        same = look-there (is_name wanted) bucket name in_its_bucket n ∙ ap (last_with (is_name wanted) name) (sym s);
      }

  module _ (k : ℕ) (c : Chain (suc k)) where
    pub chain-few : k < n
    chain-few = omega (arith, c.few, c.here, last-below bucket name c.bound)

    pub chain-found : same_bytes (name k) wanted ≡ true → last_with (is_name wanted) name n ≡ suc k
    chain-found s = c.same ∙ rw (s, last_with) refl

    module _ (o : Option ℕ) (f : o ≡ found_at (last_with (in_bucket (hash_of 0 (name k))) name k)) where
      step : one_more o ≡ last_with (in_bucket (hash_of 0 (name k))) name k
      step = ap one_more f ∙ one_more-found (last_with (in_bucket (hash_of 0 (name k))) name k)

      pub chain-falls : one_more o < suc k
      chain-falls = omega (arith, step, last-below (in_bucket (hash_of 0 (name k))) name k)

      pub chain-next : same_bytes (name k) wanted ≡ false → Chain (one_more o)
      chain-next s =
          let q : hash_of 0 (name k) ≡ hash_of 0 wanted = eqb-true (hash_of 0 (name k)) (hash_of 0 wanted) (last-passes bucket name c.bound k (sym c.here)) in
          let g : one_more o ≡ last_with bucket name k = step ∙ ap (λ x. last_with (in_bucket x) name k) q in
          let passed : last_with (is_name wanted) name (suc k) ≡ last_with (is_name wanted) name k = rw (s, last_with) refl in
          record {
            bound = k;
            few = omega (arith, chain-few);
            here = g;
            same = c.same ∙ passed ∙ look-there (is_name wanted) bucket name in_its_bucket k ∙ ap (last_with (is_name wanted) name) (sym g);
          }

  pub chain-end : Chain 0 → last_with (is_name wanted) name n ≡ 0
  chain-end c = c.same

module _ {V : Type 0} where
  pub slot-bytes : (text : List ℕ) (slots : List (Slot V)) (s : Slot V) (j : ℕ) → j < length slots → slot_name text slots j ≡ bytes_of text (get_or slots j s).entry
  slot-bytes text slots s j l = get_or-map (λ s. bytes_of text s.entry) slots j s [] l

  pub entry-bytes : (t : Table V) (e : Entry V) (j : ℕ) → j < length t.entries → name_at t j ≡ bytes_of t.text (get_or t.entries j e)
  entry-bytes t e j l = get_or-map (bytes_of t.text) t.entries j e [] l

  -- A name on the chain: number j, in the slot s.
  pub record Here (text : List ℕ) (slots : List (Slot V)) (wanted : List ℕ) (n j : ℕ) (o : Option ℕ) (s : Slot V) : Type 0 where
    pub size : one_more o ≡ suc j
    pub chain : Chain (slot_name text slots) wanted n (suc j)
    pub bytes : slot_name text slots j ≡ bytes_of text s.entry
    pub forward : s.entry.from ≤ s.entry.to
    pub inside : s.entry.to ≤ length text
    pub before : s.before ≡ found_at (last_with (in_bucket (hash_of 0 (slot_name text slots j))) (slot_name text slots) j)

  module _ (N : ℕ) (text : List ℕ) (slots : List (Slot V)) (heads : List (Option ℕ)) (n : ℕ) (E : Chained N text slots heads n) (wanted : List ℕ) (o : Option ℕ) (k j : ℕ) (e : o ≡ Some k)
      (q : j ≡ k) (c : Chain (slot_name text slots) wanted n (one_more o)) where
    its-size : one_more o ≡ suc j
    its-size = ap one_more e ∙ ap suc (sym q)

    on-chain : Chain (slot_name text slots) wanted n (suc j)
    on-chain = subst (Chain (slot_name text slots) wanted n) its-size c

    pub one-taken : j < n
    one-taken = chain-few (slot_name text slots) wanted n j on-chain

    pub here : (s : Slot V) → IsSlot slots j s → Here text slots wanted n j o s
    here s is =
        let x : get_or slots j s ≡ s = sym (is s) in
        record {
          size = its-size;
          chain = on-chain;
          bytes = slot-bytes text slots s j (omega (arith, one-taken, E.few, E.room)) ∙ ap (λ s. bytes_of text s.entry) x;
          forward = subst (λ (s : Slot V). s.entry.from ≤ s.entry.to) x (E.forward s j one-taken);
          inside = subst (λ (s : Slot V). s.entry.to ≤ length text) x (E.inside s j one-taken);
          before = ap (λ (s : Slot V). s.before) (sym x) ∙ E.before s j one-taken;
        }

  -- What callers see of the slots.
  pub size-of : (slots : List (Slot V)) (n : ℕ) → n ≤ length slots → length (map (λ s. s.entry) (take n slots)) ≡ n
  size-of slots zero l = refl
  size-of [] (suc n) l = absurd (omega arith)
  size-of (s ∷ slots) (suc n) l = ap suc (size-of slots n (omega arith))

  pub same-name : (text : List ℕ) (slots : List (Slot V)) (n j : ℕ) → j < n → n ≤ length slots → slot_name text slots j ≡ name_at (the_table text slots n) j
  same-name text slots zero j h l = absurd (omega arith)
  same-name text [] (suc n) j h l = absurd (omega arith)
  same-name text (s ∷ slots) (suc n) zero h l = refl
  same-name text (s ∷ slots) (suc n) (suc j) h l = same-name text slots n j (omega arith) (omega arith)

  pub chained-none : (N : ℕ) (text : List ℕ) (slots : List (Slot V)) (heads : List (Option ℕ)) → N ≤ 65535 → length slots ≡ N → length heads ≡ 1021 → ((h : ℕ) → h < 1021 → get_or heads h None ≡ None) → Chained N text slots heads 0
  chained-none N text slots heads k l m f =
      record { most = k; few = omega arith; room = l; buckets = m; forward = λ s j l. absurd (omega arith); inside = λ s j l. absurd (omega arith); head = f; before = λ s j l. absurd (omega arith) }

  pub seen : (text : List ℕ) (slots : List (Slot V)) (n : ℕ) (wanted : List ℕ) → n ≤ length slots
      → last_with (is_name wanted) (slot_name text slots) n ≡ last_with (is_name wanted) (name_at (the_table text slots n)) (length (the_table text slots n).entries)
  seen text slots n wanted l =
      last-ext (is_name wanted) (slot_name text slots) (name_at (the_table text slots n)) n (λ j h. same-name text slots n j h l)
      ∙ ap (last_with (is_name wanted) (name_at (the_table text slots n))) (sym (size-of slots n l))

  -- A slot more.
  pub one-entered : (text : List ℕ) (slots : List (Slot V)) (n : ℕ) (s : Slot V) → n < length slots → the_table text (set slots n s) (n + 1) ≡ entered (the_table text slots n) s.entry
  one-entered text slots n s h = ap (λ es. record { text = text; entries = es }) (go slots n h)
    where
      go : (slots : List (Slot V)) (n : ℕ) → n < length slots → map (λ s. s.entry) (take (n + 1) (set slots n s)) ≡ map (λ s. s.entry) (take n slots) ++ s.entry ∷ []
      go [] n h = absurd (omega arith)
      go (x ∷ xs) zero h = refl
      go (x ∷ xs) (suc n) h = rw add-one (ap {B = List (Entry V)} (x.entry ∷◌) (ap (λ m. map (λ s. s.entry) (take m (set xs n s))) (sym (add-one n)) ∙ go xs n (omega arith)))

module _ {V : Type 0} (N : ℕ) (text : List ℕ) (slots : List (Slot V)) (heads : List (Option ℕ)) (n : ℕ) (E : Chained N text slots heads n) (e : Entry V) (h : ℕ) (room : n < N)
    (forward : e.from ≤ e.to) (inside : e.to ≤ length text) (hash : h ≡ hash_of 0 (slice_range text e.from e.to)) (small : h < 1021) where
  abbrev slot : Slot V
  slot = record { entry = e; before = get_or heads h None }

  abbrev slots' : List (Slot V)
  slots' = set slots n slot

  abbrev heads' : List (Option ℕ)
  heads' = set heads h (Some n)

  abbrev name : ℕ → List ℕ
  name = slot_name text slots

  abbrev name' : ℕ → List ℕ
  name' = slot_name text slots'

  old-slot : (s : Slot V) (j : ℕ) → j < n → get_or slots' j s ≡ get_or slots j s
  old-slot s j l = get_or-set_other slots n j slot s (λ q. omega arith)

  new-slot : (s : Slot V) → get_or slots' n s ≡ slot
  new-slot s = get_or-set_same slots n slot s (omega (arith, E.room))

  full : length slots' ≡ N
  full = length-set slots n slot ∙ E.room

  old-name : (j : ℕ) → j < n → name j ≡ name' j
  old-name j l =
      slot-bytes text slots slot j (omega (arith, E.room))
      ∙ ap (λ s. bytes_of text s.entry) (sym (old-slot slot j l))
      ∙ sym (slot-bytes text slots' slot j (omega (arith, full)))

  new-name : name' n ≡ slice_range text e.from e.to
  new-name = slot-bytes text slots' slot n (omega (arith, full)) ∙ ap (λ s. bytes_of text s.entry) (new-slot slot)

  new-head : (g : ℕ) → g < 1021 → get_or heads' g None ≡ found_at (last_with (in_bucket g) name' (suc n))
  new-head g l = go (ℕ_discrete g h)
    where
      go : Dec (g ≡ h) → get_or heads' g None ≡ found_at (last_with (in_bucket g) name' (suc n))
      go (yes q) =
          let t : in_bucket g (name' n) ≡ true = eq-eqb (hash_of 0 (name' n)) g (ap (hash_of 0) new-name ∙ sym hash ∙ sym q) in
          ap (λ x. get_or heads' x None) q ∙ get_or-set_same heads h (Some n) None (omega (arith, E.buckets)) ∙ rw (t, last_with) refl
      go (no f) =
          let t : in_bucket g (name' n) ≡ false =
          ne_eqb (hash_of 0 (name' n)) g (λ q. f (sym q ∙ ap (hash_of 0) new-name ∙ sym hash)) in
          get_or-set_other heads h g (Some n) None f
          ∙ E.head g l
          ∙ ap found_at (last-ext (in_bucket g) name name' n old-name)
          ∙ rw (t, last_with) refl

  at_last : (j : ℕ) → j < n + 1 → Dec (j < n) → (j < n) ⊎ (j ≡ n)
  at_last j l (yes p) = inl p
  at_last j l (no p) = inr (omega arith)

  new-before : (s : Slot V) (j : ℕ) → (j < n) ⊎ (j ≡ n) → (get_or slots' j s).before ≡ found_at (last_with (in_bucket (hash_of 0 (name' j))) name' j)
  new-before s j (inl l) =
      ap (λ (s : Slot V). s.before) (old-slot s j l)
      ∙ E.before s j l
      ∙ ap (λ m. found_at (last_with (in_bucket (hash_of 0 m)) name j)) (old-name j l)
      ∙ ap found_at (last-ext (in_bucket (hash_of 0 (name' j))) name name' j (λ i k. old-name i (omega arith)))
  new-before s j (inr q) =
      subst (λ j. (get_or slots' j s).before ≡ found_at (last_with (in_bucket (hash_of 0 (name' j))) name' j)) (sym q)
      (ap (λ (s : Slot V). s.before) (new-slot s)
      ∙ E.head h small
      ∙ ap (λ g. found_at (last_with (in_bucket g) name n)) (hash ∙ ap (hash_of 0) (sym new-name))
      ∙ ap found_at (last-ext (in_bucket (hash_of 0 (name' n))) name name' n old-name))

  new-forward : (s : Slot V) (j : ℕ) → (j < n) ⊎ (j ≡ n) → (get_or slots' j s).entry.from ≤ (get_or slots' j s).entry.to
  new-forward s j (inl l) = rw (old-slot s j l) (E.forward s j l)
  new-forward s j (inr q) = rw (q, new-slot s) forward

  new-inside : (s : Slot V) (j : ℕ) → (j < n) ⊎ (j ≡ n) → (get_or slots' j s).entry.to ≤ length text
  new-inside s j (inl l) = rw (old-slot s j l) (E.inside s j l)
  new-inside s j (inr q) = rw (q, new-slot s) inside

  pub chained-more : Chained N text slots' heads' (n + 1)
  chained-more =
      record {
        most = E.most;
        few = omega arith;
        room = full;
        buckets = length-set heads h (Some n) ∙ E.buckets;
        forward = λ s j l. new-forward s j (at_last j l (dec_lt j n));
        inside = λ s j l. new-inside s j (at_last j l (dec_lt j n));
        head = λ g l. new-head g l ∙ ap (λ m. found_at (last_with (in_bucket g) name' m)) (sym (add-one n));
        before = λ s j l. new-before s j (at_last j l (dec_lt j n));
      }

-- The entries of a table with one more, and their names.
module _ {V : Type 0} (t : Table V) (e : Entry V) where
  pub entered-old : (d : Entry V) (j : ℕ) → j < length t.entries → get_or (entered t e).entries j d ≡ get_or t.entries j d
  entered-old d j l = go t.entries j l
    where
      go : (es : List (Entry V)) (j : ℕ) → j < length es → get_or (es ++ e ∷ []) j d ≡ get_or es j d
      go [] j l = absurd (omega arith)
      go (x ∷ es) zero l = refl
      go (x ∷ es) (suc j) l = go es j (omega arith)

  pub entered-new : (d : Entry V) → get_or (entered t e).entries (length t.entries) d ≡ e
  entered-new d = go t.entries
    where
      go : (es : List (Entry V)) → get_or (es ++ e ∷ []) (length es) d ≡ e
      go [] = refl
      go (x ∷ es) = go es

  pub old-name_at : (j : ℕ) → j < length t.entries → name_at (entered t e) j ≡ name_at t j
  old-name_at j l = go t.entries j l
    where
      go : (es : List (Entry V)) (j : ℕ) → j < length es → get_or (map (bytes_of t.text) (es ++ e ∷ [])) j [] ≡ get_or (map (bytes_of t.text) es) j []
      go [] j l = absurd (omega arith)
      go (x ∷ es) zero l = refl
      go (x ∷ es) (suc j) l = go es j (omega arith)

  pub new-name_at : name_at (entered t e) (length t.entries) ≡ bytes_of t.text e
  new-name_at = go t.entries
    where
      go : (es : List (Entry V)) → get_or (map (bytes_of t.text) (es ++ e ∷ [])) (length es) [] ≡ bytes_of t.text e
      go [] = refl
      go (x ∷ es) = go es
