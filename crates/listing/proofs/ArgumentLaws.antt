-- What is left of the text of a symbol while its arguments are printed.
use Prim.Native.Nat.{ℕ, suc, ◌+◌, ◌≤◌}
use mathlib.Core.Path.{◌≡◌, refl, ap, sym, ◌∙◌}
use mathlib.Core.List.{List, [], ◌∷◌, ◌++◌}
use native.Mathlib.Omega.{arith}
use lib.ListN.{drop}
use lib.Seq.{drop-drop}
use Rattle.rules.specs.Terms.{app, Terms, nil, cons, count, size, sizes}
use Rattle.rules.specs.Listing.{decimal}
use Rattle.listing.specs.declared.output.Output.{Output}
use Rattle.listing.specs.Put.{Adds}
use Rattle.listing.specs.Standing.{TermsAt, ArgumentsAt, show_term, show_more, Walked}
use Rattle.listing.proofs.PutLaws.{Left, all_left, put_some}
use Rattle.listing.proofs.PrintLaws.{after-comma, applied-parts}
use Rattle.listing.proofs.StandLaws.{Split, split}

-- The arguments that are still to be printed, with the closing bracket.
pub record ArgumentsLeft (words : List ℕ) (sign arity : ℕ) (before : Output) (cells : List ℕ) (whole : List ℕ) (passed i : ℕ) (out : Output) (others : List ℕ) : Type 0 where
  pub arguments : Terms
  pub standing : TermsAt words others arguments
  pub many : i + count arguments ≡ arity
  pub end : drop (sizes arguments) others ≡ drop passed cells
  pub left : Left before whole out (show_more sign arguments (41 ∷ []))

-- The symbol's arity is not 0.
module _ {words : List ℕ} (sign symbol : ℕ) {arity : ℕ} (some : arity ≡ 0 → ⊥) {cells : List ℕ} (ts : Terms) (a : ArgumentsAt words cells arity ts) where
  counts : arity ≡ count ts
  counts = sym a.many

  pub first : Split words cells ts
  first = split words cells ts a.arguments (λ z. some (counts ∙ ap count z))

  -- What is left after the symbol, and after the bracket.
  pub named :
      {before out : Output} → Adds before (115 ∷ decimal symbol []) out
      → Left before (show_term sign (app symbol ts) []) out ((40 ∷ []) ++ (show_term sign first.first [] ++ show_more sign first.others (41 ∷ [])))
  named {before} w = put_some (all_left before (ap (λ us. show_term sign (app symbol us) []) first.same ∙ applied-parts sign symbol first.first first.others)) w

  -- After the first argument.
  pub begun :
      {before out between after : Output} {others : List ℕ} → Adds before (115 ∷ decimal symbol []) out → Adds out (40 ∷ []) between
      → Walked between cells (show_term sign first.first []) (size first.first) after others
      → ArgumentsLeft words sign arity before cells (show_term sign (app symbol ts) []) (sizes ts) 1 after others
  begun w o t = record {
    arguments = first.others;
    standing = rw t.passed first.after;
    many = omega (arith, counts, ap count first.same);
    end = rw (t.passed, ap sizes first.same) (drop-drop (sizes first.others) (size first.first) cells);
    left = put_some (put_some (named w) o) t.adds;
  }

module _ {words : List ℕ} {sign arity : ℕ} {before : Output} {cells whole : List ℕ} {passed i : ℕ} {out : Output} {others : List ℕ}
    (l : ArgumentsLeft words sign arity before cells whole passed i out others) where
  pub next : suc i ≤ arity → Split words others l.arguments
  next h = split words others l.arguments l.standing (λ z. let n : count l.arguments ≡ 0 = ap count z in omega (arith, l.many, n))

  pub comma :
      (h : suc i ≤ arity) → let n = next h in
      Left before whole out ((44 ∷ []) ++ (show_term sign n.first [] ++ show_more sign n.others (41 ∷ [])))
  comma h = let n = next h in rw (ap (λ us. show_more sign us (41 ∷ [])) n.same ∙ after-comma sign n.first n.others (41 ∷ [])) at l.left

  -- After one more argument.
  pub passed_one :
      (h : suc i ≤ arity) {between after : Output} {rest : List ℕ} → Adds out (44 ∷ []) between
      → Walked between others (show_term sign (next h).first []) (size (next h).first) after rest
      → ArgumentsLeft words sign arity before cells whole passed (i + 1) after rest
  passed_one h o t =
      let n = next h in
      record {
        arguments = n.others;
        standing = rw t.passed n.after;
        many = omega (arith, l.many, ap count n.same);
        end = rw t.passed (drop-drop (sizes n.others) (size n.first) others ∙ rw (ap sizes n.same) at l.end);
        left = put_some (put_some (comma h) o) t.adds;
      }

  no-arguments : (us : Terms) → count us ≡ 0 → us ≡ nil
  no-arguments nil e = refl
  no-arguments (cons t us) e = absurd (omega arith)

  -- Only the closing bracket is left.
  pub closing : arity ≤ i → Left before whole out (41 ∷ []) × (others ≡ drop passed cells)
  closing h =
      let z : l.arguments ≡ nil = no-arguments l.arguments (omega (arith, l.many)) in
      (rw z at l.left, rw z at l.end)
