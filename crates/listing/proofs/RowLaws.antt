-- What is left of a row's text while its terms are printed.
use Prim.Native.Nat.{ℕ}
use mathlib.Core.Path.{◌≡◌, ap, sym, ◌∙◌}
use mathlib.Core.List.{List, [], ◌∷◌, ◌++◌}
use native.Mathlib.Omega.{arith}
use lib.ListN.{length, drop, length-drop}
use Rattle.rules.specs.Terms.{Terms, nil, sizes, size}
use Rattle.rules.specs.Listing.{print_spaced, print_answer}
use Rattle.listing.specs.declared.output.Output.{Output}
use Rattle.listing.specs.Put.{Adds}
use Rattle.listing.specs.Standing.{TermsAt, show_term, Walked}
use Rattle.listing.proofs.PutLaws.{Left, all_left, put_some}
use Rattle.listing.proofs.PrintLaws.{after-space, line-parts}
use Rattle.listing.proofs.StandLaws.{Split, split, no-terms}

module _ {words row : List ℕ} (ts : Terms) (a : TermsAt words row ts) (e : length row ≡ sizes ts) where
  pub first : (length row ≡ 0 → ⊥) → Split words row ts
  first some = split words row ts a (λ z. some (e ∙ ap sizes z))

  -- The terms after the first are a row too.
  pub others :
      (some : length row ≡ 0 → ⊥) {rest : List ℕ} → let n = first some in
      rest ≡ drop (size n.first) row → TermsAt words rest n.others × (length rest ≡ sizes n.others)
  others some p =
      let n = first some in
      (rw p n.after, omega (arith, e, ap sizes n.same, ap length p, length-drop (size n.first) row))

  pub line : (some : length row ≡ 0 → ⊥) (out : Output) → let n = first some in
      Left out (print_answer ts (10 ∷ [])) out (show_term 118 n.first [] ++ (print_spaced n.others [] ++ (10 ∷ [])))
  line some out = let n = first some in all_left out (ap (λ us. print_answer us (10 ∷ [])) n.same ∙ line-parts n.first n.others)

  pub none : length row ≡ 0 → ts ≡ nil
  none z = no-terms ts (sym e ∙ z)

-- The terms that are still to be printed, each after a space.
pub record RowLeft (words : List ℕ) (before : Output) (whole : List ℕ) (out : Output) (cells : List ℕ) : Type 0 where
  pub terms : Terms
  pub standing : TermsAt words cells terms
  pub ends : length cells ≡ sizes terms
  pub left : Left before whole out (print_spaced terms [])

module _ {words : List ℕ} {before : Output} {whole : List ℕ} {out : Output} {cells : List ℕ} (l : RowLeft words before whole out cells) where
  pub next : (length cells ≡ 0 → ⊥) → Split words cells l.terms
  next some = first l.terms l.standing l.ends some

  pub spaced : (some : length cells ≡ 0 → ⊥) → let n = next some in
      Left before whole out ((32 ∷ []) ++ (show_term 118 n.first [] ++ print_spaced n.others []))
  spaced some = let n = next some in rw (ap (λ us. print_spaced us []) n.same ∙ after-space n.first n.others) at l.left

  pub passed_one :
      (some : length cells ≡ 0 → ⊥) {between after : Output} {rest : List ℕ} → Adds out (32 ∷ []) between
      → Walked between cells (show_term 118 (next some).first []) (size (next some).first) after rest
      → RowLeft words before whole after rest
  unfolding first next
  passed_one some w t =
      let n = next some in
      let o = others l.terms l.standing l.ends some t.passed in
      record { terms = n.others; standing = o.0; ends = o.1; left = put_some (put_some (spaced some) w) t.adds }

  pub ended : length cells ≡ 0 → Left before whole out []
  ended z = rw (none l.terms l.standing l.ends z) at l.left
