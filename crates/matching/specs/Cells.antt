-- Terms as cells in prefix notation. Assumes nothing.
use Rattle.std.specs.Prelude.{◌+◌, ℕ, suc, ◌-◌, ◌%◌, ◌<◌, ◌≤◌, ◌≡◌, List, [], ◌∷◌, length, get_or, drop}
use Rattle.std.proofs.Math.Logic.{ite}
use Rattle.std.proofs.Math.Decide.{dec_lt}
use Rattle.rules.specs.Terms.{Term, Terms, var, app, nil, cons, count}
use Rattle.signature.specs.Symbols.{symbol_count, arity_at}
use Rattle.matching.specs.Taking.{take_t, drop_t, head_t}

-- How many terms follow a cell as its arguments. `ar` are the deck's symbol words.
-- A cell below 32,768 is a symbol's number, or 16,384 plus a predicate's (that predicate negated); so a literal reads as a term.
unfoldable pub args_of : List ℕ → ℕ → ℕ
args_of ar c = ite (dec_lt c 32768) (arity_at ar (c % 16384)) 0

-- the term that a cell makes of those that follow it
unfoldable pub made : ℕ → Terms → Term
made c ts = ite (dec_lt c 32768) (app c ts) (var (c - 32768))

-- the terms that cells hold, one that starts at each cell that is no argument; read from the end
unfoldable pub reads : List ℕ → List ℕ → Terms
reads ar [] = nil
reads ar (c ∷ cs) = cons (made c (take_t (args_of ar c) (reads ar cs))) (drop_t (args_of ar c) (reads ar cs))

-- all terms from p on; the first of them; and the k - 1 after the first of k
abbrev pub from : List ℕ → List ℕ → ℕ → Terms
from ar cells p = reads ar (drop p cells)

abbrev pub term_at : List ℕ → List ℕ → ℕ → Term
term_at ar cells p = head_t (from ar cells p)

abbrev pub others : List ℕ → List ℕ → ℕ → ℕ → Terms
others ar cells p k = take_t (k - 1) (drop_t 1 (from ar cells p))

-- cells that are terms, one after another, over the functors of `ar`
pub record Formed (ar cells : List ℕ) : Type 0 where
  pub known : (p : ℕ) → p < length cells → get_or cells p 0 < 32768 → get_or cells p 0 % 16384 < symbol_count ar
  pub whole : (p : ℕ) → p < length cells → args_of ar (get_or cells p 0) ≤ count (from ar cells (suc p))
  pub short : length cells < 65536

-- r is the place after the k terms at p
pub record Skipped (ar cells : List ℕ) (p k r : ℕ) : Type 0 where
  pub inside : r ≤ length cells
  pub onward : p + k ≤ r
  pub same : from ar cells r ≡ drop_t k (from ar cells p)

-- of the k terms at p, those after the first are at r
pub record RestAt (ar cells : List ℕ) (p k r : ℕ) : Type 0 where
  pub enough : k - 1 ≤ count (from ar cells r)
  pub same : take_t (k - 1) (from ar cells r) ≡ others ar cells p k
