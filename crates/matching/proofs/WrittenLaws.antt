-- Terms that were written are read back, and cells of them are well formed. Assumes nothing.
use mathlib.Core.Path.{◌≡◌, refl, sym, ◌∙◌, ap, ap₂}
use mathlib.Core.List.{List, [], ◌∷◌, ◌++◌, append_assoc}
use Prim.Native.Nat.{ℕ, zero, suc, ◌+◌, ◌%◌, ◌≤◌, ◌<◌}
use native.Mathlib.Omega.{arith}
use lib.ListN.{length, get_or, length-append}
use Rattle.rules.specs.Terms.{Term, Terms, var, app, nil, cons, size, sizes, ◌+++◌, count}
use Rattle.rules.specs.Cells.{write_term, write_terms}
use Rattle.signature.specs.Symbols.{symbol_count}
use Rattle.matching.specs.Taking.{take_t, drop_t, take-join, drop-join}
use Rattle.matching.specs.Cells.{args_of, made, reads, from, Formed}
use Rattle.matching.specs.Written.{write, writes, Fit, Fits}
use Rattle.rules.proofs.TermLaws.{count-join}
use Rattle.matching.proofs.CellLaws.{args-functor, args-var, made-functor, made-var}

reads-cell : (ar : List ℕ) (c : ℕ) (cs : List ℕ) → reads ar (c ∷ cs) ≡ cons (made c (take_t (args_of ar c) (reads ar cs))) (drop_t (args_of ar c) (reads ar cs))
unfolding reads
reads-cell ar c cs = refl

mutual
  read-write : (ar : List ℕ) (t : Term) → Fit ar t → (rest : List ℕ) → reads ar (write t ++ rest) ≡ cons t (reads ar rest)
  read-write ar (var v) f rest = reads-cell ar (32768 + v) rest ∙ rw (args-var ar (32768 + v) (omega arith), made-var (32768 + v) nil (omega arith)) (ap (λ i. cons (var i) (reads ar rest)) (omega arith))
  read-write ar (app g ts) f rest =
      reads-cell ar g (writes ts ++ rest)
      ∙ rw (args-functor ar g f.0, f.2, reads-writes ar ts f.3 rest, take-join ts (reads ar rest), drop-join ts (reads ar rest), made-functor g ts f.0)

  reads-writes : (ar : List ℕ) (ts : Terms) → Fits ar ts → (rest : List ℕ) → reads ar (writes ts ++ rest) ≡ ts +++ reads ar rest
  reads-writes ar nil f rest = refl
  reads-writes ar (cons t ts) f rest = ap (reads ar) (append_assoc (write t) (writes ts) rest) ∙ read-write ar t f.0 (writes ts ++ rest) ∙ ap (cons t) (reads-writes ar ts f.1 rest)

-- every cell of a list is in order
abbrev pub Whole : List ℕ → List ℕ → Type 0
Whole ar [] = Unit {0}
Whole ar (c ∷ cs) = (c < 32768 → c % 16384 < symbol_count ar) × (args_of ar c ≤ count (reads ar cs)) × Whole ar cs

mutual
  whole-write : (ar : List ℕ) (t : Term) → Fit ar t → (rest : List ℕ) → Whole ar rest → Whole ar (write t ++ rest)
  whole-write ar (var v) f rest w = (λ h. absurd (omega arith), omega (arith, args-var ar (32768 + v) (omega arith)), w)
  whole-write ar (app g ts) f rest w = (λ _. f.1, omega (arith, args-functor ar g f.0, f.2, ap count (reads-writes ar ts f.3 rest), count-join ts (reads ar rest)), whole-writes ar ts f.3 rest w)

  pub whole-writes : (ar : List ℕ) (ts : Terms) → Fits ar ts → (rest : List ℕ) → Whole ar rest → Whole ar (writes ts ++ rest)
  whole-writes ar nil f rest w = w
  whole-writes ar (cons t ts) f rest w = rw append_assoc (whole-write ar t f.0 (writes ts ++ rest) (whole-writes ar ts f.1 rest w))

whole-known : (ar cells : List ℕ) → Whole ar cells → (p : ℕ) → p < length cells → get_or cells p 0 < 32768 → get_or cells p 0 % 16384 < symbol_count ar
whole-known ar [] w p l h = absurd (omega arith)
whole-known ar (c ∷ cs) w zero l h = w.0 h
whole-known ar (c ∷ cs) w (suc p) l h = whole-known ar cs w.2 p (omega arith) h

whole-args : (ar cells : List ℕ) → Whole ar cells → (p : ℕ) → p < length cells → args_of ar (get_or cells p 0) ≤ count (from ar cells (suc p))
whole-args ar [] w p l = absurd (omega arith)
whole-args ar (c ∷ cs) w zero l = w.1
whole-args ar (c ∷ cs) w (suc p) l = whole-args ar cs w.2 p (omega arith)

pub whole-formed : {ar cells : List ℕ} → Whole ar cells → length cells < 65536 → Formed ar cells
whole-formed {ar} {cells} w h = record { known = whole-known ar cells w; whole = whole-args ar cells w; short = h }

mutual
  length-write : (t : Term) → length (write t) ≡ size t
  length-write (var v) = refl
  length-write (app f ts) = ap suc (length-writes ts)

  length-writes : (ts : Terms) → length (writes ts) ≡ sizes ts
  length-writes nil = refl
  length-writes (cons t ts) = length-append (write t) (writes ts) ∙ ap₂ ◌+◌ (length-write t) (length-writes ts)

-- the rules' writing, which takes the cells that follow
mutual
  write-term : (t : Term) (rest : List ℕ) → write t ++ rest ≡ write_term t rest
  write-term (var v) rest = refl
  write-term (app f ts) rest = ap (λ cs. f ∷ cs) (writes-terms ts rest)

  pub writes-terms : (ts : Terms) (rest : List ℕ) → writes ts ++ rest ≡ write_terms ts rest
  writes-terms nil rest = refl
  writes-terms (cons t ts) rest = append_assoc (write t) (writes ts) rest ∙ write-term t (writes ts ++ rest) ∙ ap (write_term t) (writes-terms ts rest)

pub reads-terms : (ar : List ℕ) (ts : Terms) → Fits ar ts → (rest : List ℕ) → reads ar (write_terms ts rest) ≡ ts +++ reads ar rest
reads-terms ar ts f rest = ap (reads ar) (sym (writes-terms ts rest)) ∙ reads-writes ar ts f rest
