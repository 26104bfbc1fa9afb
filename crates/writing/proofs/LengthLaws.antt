-- The length of the text: of numbers, of a clause by its cells, and of a symbol's line.
use Prim.Native.Nat.{ℕ, zero, suc, ◌+◌, ◌-◌, ◌*◌, ◌/◌, ◌%◌, ◌^◌, max, ◌≤◌, ◌<◌}
use mathlib.Core.Path.{◌≡◌, refl, ap, sym, ◌∙◌, subst}
use mathlib.Core.Option.{Option, none, some, none-ne-some, some-injective}
use mathlib.Core.Bool.{Bool, true, false}
use mathlib.Core.List.{List, [], ◌∷◌, ◌++◌}
use native.Mathlib.Omega.{arith}
use native.Mathlib.Decide.{dec_lt}
use lib.Dec.{leb}
use lib.ListN.{length, get_elem?, length-append}
use Rattle.std.specs.Prelude.{sum_by, count_by}
use Rattle.std.proofs.lemmas.List.Recursion.{is_sum_by}
use Rattle.rules.specs.Terms.{Term, var, app, Terms, nil, cons, count, vars_term, vars_terms}
use Rattle.rules.specs.Syntax.{Symbol, functor, predicate, Literal, pos, neg, Clause, vars_literals}
use Rattle.rules.specs.Cells.{Cell, variable, function, positive, negative, invalid, write_term, write_terms, write_literals, symbol_cell, negated_cell, variable_cell, read_cell}
use Rattle.rules.specs.Decks.{write_clause}
use Rattle.rules.specs.WellFormed.{All, WfSymbol, WfTerm, WfTerms, WfLiterals, clause_literals}
use Rattle.rules.specs.Listing.{digits, decimal}
use Rattle.text_rules.specs.TextWriter.{symbol_text, value_text, number_text, symbol_line, literal_text, literals_text, body_text, clause_text}
use Rattle.rules.proofs.CellLaws.{Small, Written, cell-written, read_cell-var, after-term, after-terms, cell-symbol, cell-negated, cell-variable}
use Rattle.deck.specs.Kinds.{symbol_of, kind_of, begins_literal}
use Rattle.deck.specs.declared.kinds.Kind.{Kind}
use Rattle.deck.specs.declared.kinds.Kind.TheVariants.{Variable, Function, Positive, Negative, Invalid}
use Rattle.listing.specs.Standing.{show_term, show_arguments, show_more}
use Rattle.listing.specs.Digits.{weight_at}
use Rattle.listing.proofs.DigitLaws.{weight-positive, power_weight, decimal-append, decimal-length, one-digit, more-digits}
use Rattle.writing.specs.Writes.{line_text}
use Rattle.writing.specs.Lengths.{name_bytes, bracket_bytes, cell_bytes, literal_cell, row_bytes, literal_cells, body_bytes, clause_bytes}
use Rattle.writing.proofs.TextParts.{number-parts, value-small, value-negative, positive-text, negative-text, no-literals, no_body, literals-parts, body-parts, clause-parts, line-parts, functor-text, predicate-text}

-- A number from ten to the k up to ten to the k + 1 has k + 1 digits.
digits-many : (k n more : ℕ) (rest : List ℕ) → weight_at k ≤ n → n < weight_at (suc k) → n ≤ more → length (digits (suc more) n rest) ≡ suc k + length rest
digits-many zero n more rest l h f = ap length (one-digit n more rest h) ∙ omega arith
digits-many (suc k) n zero rest l h f = absurd (omega (arith, weight-positive k))
digits-many (suc k) n (suc more) rest l h f =
    let ten : 10 ≤ n = omega (arith, weight-positive k) in
    ap length (more-digits n (suc more) rest ten)
    ∙ (digits-many k (n / 10) more ((48 + n % 10) ∷ rest) (omega arith) (omega arith) (omega arith) ∙ omega arith)

pub decimal-many : (k n : ℕ) → weight_at k ≤ n → n < weight_at (suc k) → length (decimal n []) ≡ suc k
unfolding decimal
decimal-many k n l h = digits-many k n n [] l h (omega arith) ∙ omega arith

power-one : (k : ℕ) → weight_at k ≤ 1 → k ≡ 0
power-one zero h = refl
power-one (suc k) h = absurd (omega (arith, weight-positive k))

-- By the greatest power of ten that is not above the number, or 1 for 0.
pub decimal-power : (k n : ℕ) → 10 ^ k ≤ max n 1 → max n 1 < 10 * 10 ^ k → length (decimal n []) ≡ k + 1
unfolding decimal
decimal-power k n l h = go (dec_lt n 1)
  where
    go : Dec (n < 1) → length (decimal n []) ≡ k + 1
    go (yes z) =
        let o : weight_at k ≤ 1 = omega (arith, power_weight k) in
        ap length (one-digit n n [] (omega arith)) ∙ omega (arith, power-one k o)
    go (no p) = decimal-many k n (omega (arith, power_weight k)) (omega (arith, power_weight k)) ∙ omega arith

decimal-rest : (n : ℕ) (rest : List ℕ) → length (decimal n rest) ≡ length (decimal n []) + length rest
decimal-rest n rest = ap length (decimal-append n [] rest) ∙ length-append (decimal n []) rest

-- Seven bytes and two numbers.
line-length : (a b c n arity : ℕ) → length (line_text (a ∷ b ∷ c ∷ []) n arity) ≡ 7 + length (decimal n []) + length (decimal arity [])
line-length a b c n arity =
    omega (
      arith,
      ap length (line-parts (a ∷ b ∷ c ∷ []) n arity),
      length-append (decimal n []) ((47 ∷ decimal arity []) ++ (46 ∷ 10 ∷ [])),
      length-append (decimal arity []) (46 ∷ 10 ∷ []),
    )

pub symbol-line : (w n : ℕ) → length (symbol_text (symbol_of w) n []) ≡ 7 + length (decimal n []) + length (decimal (w % 256) [])
symbol-line w n = go (leb 256 w) refl
  where
    go : (b : Bool) → leb 256 w ≡ b → length (symbol_text (symbol_of w) n []) ≡ 7 + length (decimal n []) + length (decimal (w % 256) [])
    go true e = ap length (predicate-text w n e) ∙ line-length 112 114 32 n (w % 256)
    go false e = ap length (functor-text w n e) ∙ line-length 102 110 32 n (w % 256)

pub number-line : (w n : ℕ) → length (number_text w n []) ≡ 7 + length (decimal n []) + length (value_text w [])
number-line w n =
    omega (
      arith,
      ap length (number-parts w n),
      length-append (decimal n []) ((32 ∷ value_text w []) ++ (46 ∷ 10 ∷ [])),
      length-append (value_text w []) (46 ∷ 10 ∷ []),
    )

pub value-short : (w : ℕ) → length (value_text w []) ≤ 6
value-short w = go (dec_lt w 32768)
  where
    go : Dec (w < 32768) → length (value_text w []) ≤ 6
    go (yes h) = omega (arith, ap length (value-small w h), decimal-length 4 w (omega arith))
    go (no h) = omega (arith, ap length (value-negative w (omega arith)), decimal-length 4 (65536 - w) (omega arith))

-- The line of a symbol that is no number, and of one that is.
pub line-none : (w n : ℕ) (o : Option ℕ) → o ≡ none → length (symbol_line (symbol_of w) o n []) ≡ 7 + length (decimal n []) + length (decimal (w % 256) [])
unfolding symbol_line
line-none w n none e = symbol-line w n
line-none w n (some v) e = absurd (none-ne-some v (sym e))

pub line-some : (w n v : ℕ) (o : Option ℕ) → o ≡ some v → length (symbol_line (symbol_of w) o n []) ≡ 7 + length (decimal n []) + length (value_text v [])
unfolding symbol_line
line-some w n v none e = absurd (none-ne-some v e)
line-some w n v (some x) e = number-line x n ∙ ap (λ k. 7 + length (decimal n []) + length (value_text k [])) (some-injective x v e)

-- The number of terms that follow a cell.
abbrev pub arity_of : Kind → ℕ
arity_of (Variable v) = 0
arity_of (Function k) = k
arity_of (Positive k) = k
arity_of (Negative k) = k
arity_of Invalid = 0

-- Terms: each cell has its share.
module _ (S : List Symbol) where
  mutual
    term-bytes :
        (t : Term) (vs tail rest : List ℕ) → WfTerm S t → All Small (vars_term t vs)
        → length (show_term 95 t rest) + row_bytes S tail ≡ row_bytes S (write_term t tail) + length rest
    term-bytes (var v) vs tail rest w s =
        let e : row_bytes S (write_term (var v) tail) ≡ name_bytes v + row_bytes S tail =
        ap (λ x. cell_bytes (kind_of x) (32768 + v) + row_bytes S tail) (read_cell-var S v s.0) in
        omega (arith, decimal-rest v rest)
    term-bytes (app f ts) vs tail rest w s =
        let e : row_bytes S (write_term (app f ts) tail) ≡ name_bytes f + bracket_bytes (count ts) + row_bytes S (write_terms ts tail) =
        ap (λ x. cell_bytes (kind_of x) f + row_bytes S (write_terms ts tail)) w.0 in
        omega (arith, decimal-rest f (show_arguments 95 ts rest), arguments-bytes ts vs tail rest w.1 s)

    arguments-bytes :
        (ts : Terms) (vs tail rest : List ℕ) → WfTerms S ts → All Small (vars_terms ts vs)
        → length (show_arguments 95 ts rest) + row_bytes S tail ≡ bracket_bytes (count ts) + row_bytes S (write_terms ts tail) + length rest
    arguments-bytes nil vs tail rest w s = omega arith
    arguments-bytes (cons t ts) vs tail rest w s =
        omega (
          arith,
          term-bytes t (vars_terms ts vs) (write_terms ts tail) (show_more 95 ts (41 ∷ rest)) w.0 s,
          more_bytes ts vs tail (41 ∷ rest) w.1 (after-term Small t (vars_terms ts vs) s),
        )

    more_bytes :
        (ts : Terms) (vs tail rest : List ℕ) → WfTerms S ts → All Small (vars_terms ts vs)
        → length (show_more 95 ts rest) + row_bytes S tail ≡ count ts + row_bytes S (write_terms ts tail) + length rest
    more_bytes nil vs tail rest w s = omega arith
    more_bytes (cons t ts) vs tail rest w s =
        omega (
          arith,
          term-bytes t (vars_terms ts vs) (write_terms ts tail) (show_more 95 ts rest) w.0 s,
          more_bytes ts vs tail rest w.1 (after-term Small t (vars_terms ts vs) s),
        )

  -- No literal begins among terms.
  mutual
    term-cells : (t : Term) (vs tail : List ℕ) → WfTerm S t → All Small (vars_term t vs) → literal_cells S (write_term t tail) ≡ literal_cells S tail
    term-cells (var v) vs tail w s = ap (λ x. literal_cell (kind_of x) + literal_cells S tail) (read_cell-var S v s.0) ∙ omega arith
    term-cells (app f ts) vs tail w s = ap (λ x. literal_cell (kind_of x) + literal_cells S (write_terms ts tail)) w.0 ∙ omega (arith, terms-cells ts vs tail w.1 s)

    terms-cells : (ts : Terms) (vs tail : List ℕ) → WfTerms S ts → All Small (vars_terms ts vs) → literal_cells S (write_terms ts tail) ≡ literal_cells S tail
    terms-cells nil vs tail w s = refl
    terms-cells (cons t ts) vs tail w s =
        term-cells t (vars_terms ts vs) (write_terms ts tail) w.0 s ∙ terms-cells ts vs tail w.1 (after-term Small t (vars_terms ts vs) s)

  -- Literals: as long as each after a comma and a space.
  literals-bytes :
      (ls : List Literal) → WfLiterals S ls → All Small (vars_literals ls)
      → (row_bytes S (write_literals ls) ≡ length (literals_text ls [])) × (literal_cells S (write_literals ls) ≡ length ls)
  literals-bytes [] w s = (sym (ap length no-literals), refl)
  literals-bytes (pos p ts ∷ ls) w s =
      let tail = write_literals ls in
      let r = literals-bytes ls w.1 (after-terms Small ts (vars_literals ls) s) in
      let e : row_bytes S (p ∷ write_terms ts tail) ≡ 2 + (name_bytes p + bracket_bytes (count ts)) + row_bytes S (write_terms ts tail) =
      ap (λ x. cell_bytes (kind_of x) p + row_bytes S (write_terms ts tail)) w.0.0 in (
        omega (
          arith,
          r.0,
          ap length (literals-parts (pos p ts) ls),
          length-append (literal_text (pos p ts) []) (literals_text ls []),
          ap length (positive-text p ts []),
          decimal-rest p (show_arguments 95 ts []),
          arguments-bytes ts (vars_literals ls) tail [] w.0.1 s,
        ),
        ap (λ x. literal_cell (kind_of x) + literal_cells S (write_terms ts tail)) w.0.0
            ∙ ap (1 +◌) (terms-cells ts (vars_literals ls) tail w.0.1 s ∙ r.1)
            ∙ omega arith,
      )
  literals-bytes (neg p ts ∷ ls) w s =
      let tail = write_literals ls in
      let r = literals-bytes ls w.1 (after-terms Small ts (vars_literals ls) s) in
      let n : 16384 + p - 16384 ≡ p = omega arith in
      let e : row_bytes S ((16384 + p) ∷ write_terms ts tail) ≡ 3 + (name_bytes (16384 + p - 16384) + bracket_bytes (count ts)) + row_bytes S (write_terms ts tail) =
      ap (λ x. cell_bytes (kind_of x) (16384 + p) + row_bytes S (write_terms ts tail)) w.0.0 in (
        omega (
          arith,
          r.0,
          ap name_bytes n,
          ap length (literals-parts (neg p ts) ls),
          length-append (literal_text (neg p ts) []) (literals_text ls []),
          ap length (negative-text p ts []),
          decimal-rest p (show_arguments 95 ts []),
          arguments-bytes ts (vars_literals ls) tail [] w.0.1 s,
        ),
        ap (λ x. literal_cell (kind_of x) + literal_cells S (write_terms ts tail)) w.0.0
            ∙ ap (1 +◌) (terms-cells ts (vars_literals ls) tail w.0.1 s ∙ r.1)
            ∙ omega arith,
      )

  -- A body is two bytes longer than that, and a clause has its head and the end of its line.
  body-length : (ls : List Literal) → length (body_text ls []) ≡ body_bytes (suc (length ls)) + length (literals_text ls [])
  body-length [] = omega (arith, ap length no_body, ap length no-literals)
  body-length (l ∷ ls) = omega (arith, ap length (body-parts l ls), ap length (literals-parts l ls))

  pub clause-bytes : (c : Clause) → WfLiterals S (clause_literals c) → All Small (vars_literals (clause_literals c)) → clause_bytes S (write_clause c) ≡ length (clause_text c [])
  unfolding write_clause
  clause-bytes c w s =
      let head = pos c.predicate c.arguments in
      let r = literals-bytes (clause_literals c) w s in
      omega (
        arith,
        r.0,
        ap body_bytes r.1,
        ap length (literals-parts head c.body),
        length-append (literal_text head []) (literals_text c.body []),
        ap length (clause-parts c),
        length-append (literal_text head []) (body_text c.body [] ++ (46 ∷ 10 ∷ [])),
        length-append (body_text c.body []) (46 ∷ 10 ∷ []),
        body-length c.body,
      )

  -- Arities are at most 15.
  known_at : (i : ℕ) → (T : List Symbol) → All WfSymbol T → (s : Symbol) → get_elem? T i ≡ some s → WfSymbol s
  known_at i [] w s e = absurd (none-ne-some s e)
  known_at zero (t ∷ T) w s e = subst WfSymbol (some-injective t s e) w.0
  known_at (suc i) (t ∷ T) w s e = known_at i T w.1 s e

  symbol-arity : (n i : ℕ) → All WfSymbol S → (o : Option Symbol) → get_elem? S i ≡ o → (arity_of (kind_of (symbol_cell n o)) ≤ 15) × (arity_of (kind_of (negated_cell n o)) ≤ 15)
  unfolding symbol_cell negated_cell
  symbol-arity n i w none e = (omega arith, omega arith)
  symbol-arity n i w (some (functor k)) e = (known_at i S w (functor k) e, omega arith)
  symbol-arity n i w (some (predicate k)) e = let l = known_at i S w (predicate k) e in (l, l)

  variable-arity : (v : ℕ) → arity_of (kind_of (variable_cell v)) ≤ 15
  unfolding variable_cell
  variable-arity v = go (leb v 1023)
    where
      go : (b : Bool) → arity_of (kind_of (elim b [ true ↦ variable v | false ↦ invalid ])) ≤ 15
      go true = omega arith
      go false = omega arith

  pub known-arity : All WfSymbol S → (c : ℕ) → arity_of (kind_of (read_cell S c)) ≤ 15
  known-arity w c = go (dec_lt c 16384) (dec_lt c 32768)
    where
      go : Dec (c < 16384) → Dec (c < 32768) → arity_of (kind_of (read_cell S c)) ≤ 15
      go (yes a) d = rw (cell-symbol S c a) (symbol-arity c c w (get_elem? S c) refl).0
      go (no a) (yes b) = rw (cell-negated S c (omega arith) b) (symbol-arity (c - 16384) (c - 16384) w (get_elem? S (c - 16384)) refl).1
      go (no a) (no b) = rw (cell-variable S c (omega arith)) (variable-arity (c - 32768))

  -- A negated predicate's cell is 16,384 or more.
  pub negative-cell : (c k : ℕ) → kind_of (read_cell S c) ≡ Negative k → 16384 ≤ c
  negative-cell c k e = go (read_cell S c) (cell-written S c) e
    where
      go : (x : Cell) → Written x c → kind_of x ≡ Negative k → 16384 ≤ c
      go (variable u) w q = absurd (let z : ◌≡◌ {A = ℕ} 0 1 = cc in omega arith)
      go (function f m) w q = absurd (let z : ◌≡◌ {A = ℕ} 0 1 = cc in omega arith)
      go (positive p m) w q = absurd (let z : ◌≡◌ {A = ℕ} 0 1 = cc in omega arith)
      go (negative p m) w q = omega (arith, w.0)
      go invalid w q = absurd (let z : ◌≡◌ {A = ℕ} 0 1 = cc in omega arith)

pub body-none : (n : ℕ) → n < 2 → body_bytes n ≡ 0
body-none zero h = refl
body-none (suc zero) h = refl
body-none (suc (suc n)) h = absurd (omega arith)

pub body-some : (n : ℕ) → 2 ≤ n → body_bytes n ≡ 2
body-some zero h = absurd (omega arith)
body-some (suc zero) h = absurd (omega arith)
body-some (suc (suc n)) h = refl

-- The shares of cells as a sum, and the literals that begin as a count.
module _ (S : List Symbol) where
  pub row-sum : (cells : List ℕ) → row_bytes S cells ≡ sum_by (λ c. cell_bytes (kind_of (read_cell S c)) c) cells
  row-sum = is_sum_by (row_bytes S) (λ c. cell_bytes (kind_of (read_cell S c)) c) refl (λ c cells. refl)

  pub literals-count : (cells : List ℕ) → literal_cells S cells ≡ count_by (λ c. begins_literal (kind_of (read_cell S c))) cells
  literals-count = is_sum_by (literal_cells S) (λ c. literal_cell (kind_of (read_cell S c))) refl (λ c cells. refl)

  -- A share is at most 32 bytes.
  brackets-short : (k : ℕ) → k ≤ 15 → bracket_bytes k ≤ 16
  brackets-short zero h = omega arith
  brackets-short (suc k) h = omega arith

  share-short : All WfSymbol S → (c : ℕ) → cell_bytes (kind_of (read_cell S c)) c ≤ 32
  share-short w c = go (read_cell S c) (cell-written S c) (known-arity S w c)
    where
      go : (x : Cell) → Written x c → arity_of (kind_of x) ≤ 15 → cell_bytes (kind_of x) c ≤ 32
      go (variable v) t a = omega (arith, decimal-length 4 v (omega (arith, t.1)))
      go (function f k) t a = omega (arith, decimal-length 4 c (omega (arith, t.1)), brackets-short k a)
      go (positive p k) t a = omega (arith, decimal-length 4 c (omega (arith, t.1)), brackets-short k a)
      go (negative p k) t a = omega (arith, decimal-length 4 (c - 16384) (omega (arith, t.1)), brackets-short k a)
      go invalid t a = omega arith

  pub row-short : All WfSymbol S → (cells : List ℕ) → row_bytes S cells ≤ 32 * length cells
  row-short w [] = omega arith
  row-short w (c ∷ cells) = omega (arith, share-short w c, row-short w cells)
