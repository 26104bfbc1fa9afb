-- Counting the arguments in brackets, token by token.
use Prim.Native.Nat.{ℕ, zero, suc, ◌+◌, ◌-◌, ◌≤◌, ◌<◌}
use mathlib.Core.Path.{◌≡◌, refl, ap, sym, ◌∙◌, subst}
use mathlib.Core.Bool.{false}
use mathlib.Core.Logic.{inl, inr}
use mathlib.Core.List.{List, [], ◌∷◌, ◌++◌}
use native.Mathlib.Omega.{arith}
use native.Mathlib.Decide.{dec_lt, ℕ_discrete}
use lib.ListN.{length, length-append, get_or, get_or-append, set, take, drop, length-set}
use lib.Seq.{get_or-set_same, get_or-set_other, get_or-append_seam, get_or-drop, drop-drop, drop-nil}
use Rattle.std.specs.Prelude.{None}
use Rattle.std.specs.List.{slice_get}
use Rattle.std.proofs.lemmas.List.{get_or-take, length-take-le}
use Rattle.std.proofs.lemmas.Option.{slice_get-get_or}
use Rattle.text_rules.specs.TextTokens.{opening, closing, comma, invalid, Token, end_token}
use Rattle.text_rules.specs.TextGrammar.{is}
use Rattle.text_rules.specs.TextWords.{commas}
use Rattle.uses.specs.Pairs.{in_brackets, Given, KnownOr, Counted, told}
use Rattle.uses.proofs.CommaLaws.{same_as, commas-opening, commas-closing, commas-closed, commas-comma, commas-inside, commas-other, commas-end, brackets-opening, brackets-other}

pub drop-front : (xs : List ℕ) (n y : ℕ) (ys : List ℕ) → drop n xs ≡ y ∷ ys → (get_or xs n 0 ≡ y) × (drop (n + 1) xs ≡ ys)
drop-front xs n y ys e =
    let z : n ≡ n + 0 = omega arith in
    (ap (λ i. get_or xs i 0) z ∙ sym (get_or-drop n xs 0 0) ∙ ap (λ l. get_or l 0 0) e, sym (drop-drop 1 n xs) ∙ ap (drop 1) e)

-- Numbers as they are told.
told-small : (k : ℕ) → told k ≤ 65535
told-small k = omega arith

told-more : (g c : ℕ) → told (told (g + 1) + c) ≡ told (g + suc c)
told-more g c = omega arith

told-all : (g c k : ℕ) → g ≤ 65535 → c ≡ 0 → told (g + c) ≡ told k → g ≡ told k
told-all g c k h z e = omega (arith, h, z, e)

-- A row without a last place is empty.
pub none_last : (row : List ℕ) → slice_get row (length row - 1) ≡ None → length row ≡ 0
none_last [] e = refl
none_last (x ∷ row) e = let l : length (x ∷ row) - 1 < length (x ∷ row) = omega arith in let z = sym (slice_get-get_or (x ∷ row) (length (x ∷ row) - 1) 0 l) ∙ e in absurd (cc)

-- From some tokens to others, while the same pairs are open, or after the last open one is closed.
module _ (all : List ℕ) (at to met inner : ℕ) (row given : List ℕ) (us vs : List Token) (l : at ≤ to) (C : Counted all at met inner row given us) where
  -- Only the brackets that are open inside the last pair change.
  pub inside :
      (inner' : ℕ) → (met < 4096 → inner' ≡ 0) → inner' ≤ to → (met < 4096 → in_brackets us ≡ in_brackets vs)
      → ((j : ℕ) → j < length row → commas (inner + (length row - suc j)) us ≡ commas (inner' + (length row - suc j)) vs) → Counted all to met inner' row given vs
  inside inner' z s e same =
      record {
        few = C.few;
        most = C.most;
        in_given = C.in_given;
        level = z;
        shallow = s;
        rest = λ m. C.rest m ∙ e m;
        owner = C.owner;
        rising = C.rising;
        small = C.small;
        count = λ j h. ap (λ n. told (get_or given (get_or row j 0) 0 + n)) (sym (same j h)) ∙ C.count j h;
        known = C.known;
      }

  module _ (z : inner ≡ 0) (last : ℕ) (r : length row ≡ suc last) (none : commas 0 us ≡ 0) where
    less : length (take last row) ≡ last
    less = length-take-le last row (omega arith)

    same_pair : (j : ℕ) → j < last → get_or (take last row) j 0 ≡ get_or row j 0
    same_pair j h = get_or-take last row j 0 h

    right : get_or given (get_or row last 0) 0 ≡ told (get_or all (get_or row last 0) 0)
    right =
        let d : inner + (length row - suc last) ≡ 0 = omega arith in
        let e : commas (inner + (length row - suc last)) us ≡ 0 = ap (λ n. commas n us) d ∙ none in
        told-all (get_or given (get_or row last 0) 0) (commas (inner + (length row - suc last)) us) (get_or all (get_or row last 0) 0) (C.small (get_or row last 0) (C.owner last (omega arith))) e (C.count last (omega arith))

    still : (i : ℕ) → KnownOr all row given i → KnownOr all (take last row) given i
    still i (inl k) = inl k
    still i (inr k) = go (dec_lt k.0 last)
      where
        go : Dec (k.0 < last) → KnownOr all (take last row) given i
        go (yes h) = inr (k.0, omega (arith, less), same_pair k.0 h ∙ k.2)
        go (no h) =
            let e : last ≡ k.0 = omega (arith, k.1) in
            let q : get_or row last 0 ≡ i = ap (λ j. get_or row j 0) e ∙ k.2 in
            inl (subst (λ x. get_or given x 0 ≡ told (get_or all x 0)) q right)

    pub popped :
        (met < 4096 → in_brackets us ≡ in_brackets vs) → ((d : ℕ) → commas (suc d) us ≡ commas d vs) → Counted all to met inner (take last row) given vs
    popped e down =
        record {
          few = omega (arith, less, C.few);
          most = C.most;
          in_given = C.in_given;
          level = C.level;
          shallow = omega (arith, C.shallow);
          rest = λ m. C.rest m ∙ e m;
          owner = λ j h. let p : j < last = omega (arith, less) in omega (arith, same_pair j p, C.owner j (omega arith));
          rising = λ i j p h.
              let q : j < last = omega (arith, less) in
              omega (arith, same_pair i (omega arith), same_pair j q, C.rising i j p (omega arith));
          small = C.small;
          count = λ j h.
              let p : j < last = omega (arith, less) in
              let d : inner + (length row - suc j) ≡ suc (inner + (length (take last row) - suc j)) = omega (arith, less) in
              rw (same_pair j p) (ap (λ n. told (get_or given (get_or row j 0) 0 + n)) (sym (ap (λ n. commas n us) d ∙ down (inner + (length (take last row) - suc j)))) ∙ C.count j (omega arith));
          known = λ i h. still i (C.known i h);
        }

-- A pair more.
module _ (all : List ℕ) (at to met inner : ℕ) (row given : List ℕ) (t : Token) (ts : List Token) (k : t.kind ≡ opening) (l : at < to) (C : Counted all at met inner row given (t ∷ ts)) where
  module _ (m : met < 4096) where
    abbrev row' : List ℕ
    row' = row ++ met ∷ []

    abbrev given' : List ℕ
    given' = set given met 1

    here : (get_or all met 0 ≡ suc (commas 0 ts)) × (drop (met + 1) all ≡ in_brackets ts)
    here = drop-front all met (suc (commas 0 ts)) (in_brackets ts) (C.rest m ∙ brackets-opening t ts k)

    size : length row' ≡ length row + 1
    size = length-append row (met ∷ [])

    last : get_or row' (length row) 0 ≡ met
    last = get_or-append_seam row met [] 0

    last-begun : get_or given' met 0 ≡ 1
    last-begun = get_or-set_same given met 1 0 (omega (arith, C.in_given))

    other : (j : ℕ) → j < length row → get_or row' j 0 ≡ get_or row j 0
    other j h = get_or-append row (met ∷ []) 0 j h

    other-begun : (i : ℕ) → i < met → get_or given' i 0 ≡ get_or given i 0
    other-begun i h = get_or-set_other given met i 1 0 (λ e. omega arith)

    -- A statement of each place of the row.
    each : (P : ℕ → Type 0) → ((j : ℕ) → j < length row → P j) → P (length row) → (j : ℕ) → j < length row' → P j
    each P f p j h = go (dec_lt j (length row))
      where
        go : Dec (j < length row) → P j
        go (yes q) = f j q
        go (no q) = let e : length row ≡ j = omega (arith, size) in subst P e p

    Right : ℕ → Type 0
    Right j = told (get_or given' (get_or row' j 0) 0 + commas (inner + (length row' - suc j)) ts) ≡ told (get_or all (get_or row' j 0) 0)

    old-right : (j : ℕ) → j < length row → Right j
    unfolding Right
    old-right j h =
        let b = get_or row j 0 in
        let d = inner + (length row - suc j) in
        let e : inner + (length row' - suc j) ≡ suc d = omega (arith, size) in
        rw (other j h, other-begun b (C.owner j h), e) (ap (λ n. told (get_or given b 0 + n)) (sym (commas-opening t ts k d)) ∙ C.count j h)

    new-right : Right (length row)
    unfolding Right
    new-right =
        let e : inner + (length row' - suc (length row)) ≡ 0 = omega (arith, C.level m, size) in
        let one : 1 + commas 0 ts ≡ get_or all met 0 = omega (arith, here.0) in rw (last, last-begun, e) (ap told one)

    known : (i : ℕ) → i < met + 1 → Dec (i < met) → KnownOr all row' given' i
    known i h (yes q) = go (C.known i q)
      where
        go : KnownOr all row given i → KnownOr all row' given' i
        go (inl e) = inl (other-begun i q ∙ e)
        go (inr e) = inr (e.0, omega (arith, e.1, size), other e.0 e.1 ∙ e.2)
    known i h (no q) = inr (length row, omega (arith, size), last ∙ omega arith)

    pub pushed : Counted all to (met + 1) inner row' given' ts
    unfolding Right
    pushed =
        record {
          few = omega (arith, C.few, size);
          most = omega arith;
          in_given = length-set given met 1 ∙ C.in_given;
          level = λ _. C.level m;
          shallow = omega (arith, C.shallow);
          rest = λ _. here.1;
          owner = each (λ j. get_or row' j 0 < met + 1) (λ j h. omega (arith, other j h, C.owner j h)) (omega (arith, last));
          rising = λ i j p h. each (λ j. i < j → get_or row' i 0 < get_or row' j 0)
              (λ j h p. omega (arith, other i (omega arith), other j h, C.rising i j p h)) (λ p. omega (arith, last, other i p, C.owner i p)) j h p;
          small = λ i h. elim (dec_lt i met) [
            | yes q ↦ omega (arith, other-begun i q, C.small i q)
            | no q ↦ let e : met ≡ i = omega arith in subst (λ x. get_or given' x 0 ≤ 65535) e (omega (arith, last-begun))
          ];
          count = each Right old-right new-right;
          known = λ i h. known i h (dec_lt i met);
        }

  pub opened_inside : met ≡ 4096 → Counted all to met (inner + 1) row given ts
  opened_inside e =
      let full : met < 4096 → ⊥ = λ m. omega arith in
      inside all at to met inner row given (t ∷ ts) ts (omega arith) C (inner + 1) (λ m. absurd (full m)) (omega (arith, C.shallow)) (λ m. absurd (full m))
      (λ j h.
      let d = inner + (length row - suc j) in
      let q : suc d ≡ inner + 1 + (length row - suc j) = omega arith in
      commas-opening t ts k d ∙ ap (λ n. commas n ts) q)

-- No pair more.
module _ (all : List ℕ) (at to met inner : ℕ) (row given : List ℕ) (t : Token) (ts : List Token) (no_opening : is opening t ≡ false) (l : at < to) (C : Counted all at met inner row given (t ∷ ts)) where
  -- While each open bracket stays open.
  pub kept : ((j : ℕ) → j < length row → commas (inner + (length row - suc j)) (t ∷ ts) ≡ commas (inner + (length row - suc j)) ts) → Counted all to met inner row given ts
  kept same = inside all at to met inner row given (t ∷ ts) ts (omega arith) C inner C.level (omega (arith, C.shallow)) (λ m. brackets-other t ts no_opening) same

  -- While none is open.
  pub kept-none : length row ≡ 0 → Counted all to met inner row given ts
  kept-none r = kept (λ j h. absurd (omega arith))

-- Closing brackets.
module _ (all : List ℕ) (at to met inner : ℕ) (row given : List ℕ) (t : Token) (ts : List Token) (k : t.kind ≡ closing) (l : at < to) (C : Counted all at met inner row given (t ∷ ts)) where
  not-opening : is opening t ≡ false
  not-opening = same_as t closing k opening

  pub closed-inside : (inner ≡ 0 → ⊥) → Counted all to met (inner - 1) row given ts
  closed-inside z =
      inside all at to met inner row given (t ∷ ts) ts (omega arith) C (inner - 1) (λ m. omega (arith, C.level m)) (omega (arith, C.shallow))
      (λ m. brackets-other t ts not-opening)
      (λ j h.
      let d = inner - 1 + (length row - suc j) in
      let q : inner + (length row - suc j) ≡ suc d = omega arith in
      ap (λ n. commas n (t ∷ ts)) q ∙ commas-closing t ts k d)

  -- The last pair leaves the row, if there is one.
  pub closed-pair : inner ≡ 0 → (n : ℕ) → n ≡ length row → Counted all to met inner (take (n - 1) row) given ts
  closed-pair z zero e = subst (λ r. Counted all to met inner r given ts) (empty row (sym e)) (kept-none all at to met inner row given t ts not-opening l C (sym e))
    where
      empty : (r : List ℕ) → length r ≡ 0 → r ≡ take 0 r
      empty [] q = refl
      empty (x ∷ r) q = absurd (omega (arith, q))
  closed-pair z (suc n) e =
      let q : suc n - 1 ≡ n = omega arith in
      rw q (popped all at to met inner row given (t ∷ ts) ts (omega arith) C z n (sym e) (commas-closed t ts k) (λ m. brackets-other t ts not-opening)
      (λ d. commas-closing t ts k d))

-- Commas.
module _ (all : List ℕ) (at to met inner : ℕ) (row given : List ℕ) (t : Token) (ts : List Token) (k : t.kind ≡ comma) (l : at < to) (C : Counted all at met inner row given (t ∷ ts)) where
  no-bracket : is opening t ≡ false
  no-bracket = same_as t comma k opening

  deeper : (d : ℕ) → (d ≡ 0 → ⊥) → commas d (t ∷ ts) ≡ commas d ts
  deeper zero f = absurd (f refl)
  deeper (suc d) f = commas-inside t ts k d

  pub comma-inside : (inner ≡ 0 → ⊥) → Counted all to met inner row given ts
  comma-inside z = kept all at to met inner row given t ts no-bracket l C (λ j h. deeper (inner + (length row - suc j)) (λ q. z (omega arith)))

  pub comma-none : length row ≡ 0 → Counted all to met inner row given ts
  comma-none = kept-none all at to met inner row given t ts no-bracket l C

  module _ (z : inner ≡ 0) (last : ℕ) (r : length row ≡ suc last) where
    abbrev pair : ℕ
    pair = get_or row last 0

    abbrev grown : List ℕ
    grown = set given pair (told (get_or given pair 0 + 1))

    in_row : pair < met
    in_row = C.owner last (omega arith)

    grows : get_or grown pair 0 ≡ told (get_or given pair 0 + 1)
    grows = get_or-set_same given pair (told (get_or given pair 0 + 1)) 0 (omega (arith, in_row, C.most, C.in_given))

    at_other : (i : ℕ) → (i ≡ pair → ⊥) → get_or grown i 0 ≡ get_or given i 0
    at_other i f = get_or-set_other given pair i (told (get_or given pair 0 + 1)) 0 f

    small : (i : ℕ) → i < met → Dec (i ≡ pair) → get_or grown i 0 ≤ 65535
    small i h (yes p) = subst (λ i. get_or grown i 0 ≤ 65535) (sym p) (omega (arith, grows, told-small (get_or given pair 0 + 1)))
    small i h (no p) = omega (arith, at_other i p, C.small i h)

    counts : (j : ℕ) → j < length row → Dec (j ≡ last) → told (get_or grown (get_or row j 0) 0 + commas (inner + (length row - suc j)) ts) ≡ told (get_or all (get_or row j 0) 0)
    counts j h (yes p) =
        let d : inner + (length row - suc last) ≡ 0 = omega arith in
        let here : commas (inner + (length row - suc last)) (t ∷ ts) ≡ suc (commas 0 ts) = ap (λ n. commas n (t ∷ ts)) d ∙ commas-comma t ts k in
        let rest : commas (inner + (length row - suc last)) ts ≡ commas 0 ts = ap (λ n. commas n ts) d in
        rw p (rw (grows, rest) (told-more (get_or given pair 0) (commas 0 ts)) ∙ ap (λ n. told (get_or given pair 0 + n)) (sym here) ∙ C.count last (omega arith))
    counts j h (no p) =
        let q : get_or row j 0 < pair = C.rising j last (omega arith) (omega arith) in
        rw (at_other (get_or row j 0) (λ e. omega arith))
        (ap (λ n. told (get_or given (get_or row j 0) 0 + n)) (sym (deeper (inner + (length row - suc j)) (λ s. p (omega arith)))) ∙ C.count j h)

    on_open : (i : ℕ) → KnownOr all row given i → Dec (i ≡ pair) → KnownOr all row grown i
    on_open i w (yes p) = inr (last, omega arith, sym p)
    on_open i (inl w) (no p) = inl (at_other i p ∙ w)
    on_open i (inr w) (no p) = inr w

    pub comma-pair : Counted all to met inner row grown ts
    comma-pair =
        record {
          few = C.few;
          most = C.most;
          in_given = length-set given pair (told (get_or given pair 0 + 1)) ∙ C.in_given;
          level = C.level;
          shallow = omega (arith, C.shallow);
          rest = λ m. C.rest m ∙ brackets-other t ts no-bracket;
          owner = C.owner;
          rising = C.rising;
          small = λ i h. small i h (ℕ_discrete i pair);
          count = λ j h. counts j h (ℕ_discrete j last);
          known = λ i h. on_open i (C.known i h) (ℕ_discrete i pair);
        }

-- Other bytes.
pub other-token :
    (all : List ℕ) (at to met inner : ℕ) (row given : List ℕ) (t : Token) (ts : List Token) → t.kind ≡ invalid → at < to
    → Counted all at met inner row given (t ∷ ts) → Counted all to met inner row given ts
other-token all at to met inner row given t ts k l C =
    kept all at to met inner row given t ts (same_as t invalid k opening) l C (λ j h. commas-other t ts k (inner + (length row - suc j)))

-- When all pairs are known.
pub given-full :
    (at met inner : ℕ) (row given : List ℕ) (us ts : List Token) → Counted (in_brackets us) at met inner row given ts → length row ≡ 0 → met ≡ 4096 → Given us given
given-full at met inner row given us ts C r m i k ks h e = go (C.known i (omega arith)) ∙ ap told (drop-front (in_brackets us) i k ks e).0
  where
    go : KnownOr (in_brackets us) row given i → get_or given i 0 ≡ told (get_or (in_brackets us) i 0)
    go (inl q) = q
    go (inr q) = absurd (omega (arith, q.1))

-- At the end of the text, an open pair has the arguments that have begun: all that are there are known, or 4,096.
pub given-all :
    (at met inner : ℕ) (row given : List ℕ) (us : List Token) → Counted (in_brackets us) at met inner row given (end_token ∷ []) → Given us given
unfolding in_brackets
given-all at met inner row given us C i k ks l e = now i (below (dec_lt i met)) (C.known i (below (dec_lt i met))) ∙ ap told (drop-front (in_brackets us) i k ks e).0
  where
    now : (i : ℕ) → i < met → KnownOr (in_brackets us) row given i → get_or given i 0 ≡ told (get_or (in_brackets us) i 0)
    now i h (inl w) = w
    now i h (inr w) = let c = C.count w.0 w.1 in let z = commas-end (inner + (length row - suc w.0)) in subst (λ x. get_or given x 0 ≡ told (get_or (in_brackets us) x 0)) w.2 (told-all (get_or given (get_or row w.0 0) 0) (commas (inner + (length row - suc w.0)) (end_token ∷ [])) (get_or (in_brackets us) (get_or row w.0 0) 0) (C.small (get_or row w.0 0) (C.owner w.0 w.1)) z c)

    none : met < 4096 → drop met (in_brackets us) ≡ []
    none m = C.rest m

    below : Dec (i < met) → i < met
    below (yes p) = p
    below (no p) =
        let s : met + (i - met) ≡ i = omega arith in
        let z : drop i (in_brackets us) ≡ [] =
        ap (λ n. drop n (in_brackets us)) (sym s) ∙ sym (drop-drop (i - met) met (in_brackets us)) ∙ ap (drop (i - met)) (none (omega arith)) ∙ drop-nil (i - met) in
        let w : k ∷ ks ≡ [] = sym e ∙ z in
        let v : ◌≡◌ {A = ℕ} 0 1 = cc in
        absurd (omega arith)
