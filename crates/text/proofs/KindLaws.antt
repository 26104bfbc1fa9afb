-- The kinds of numbers by their values.
use Rattle.std.proofs.Common.{◌≡◌, ℕ, ◌+◌, ◌-◌, ◌≤◌, ◌<◌, refl, sym, ◌∙◌, arith}
use borrow.Author.Tests.{le-leb, lt-leb}
use Rattle.text_rules.specs.TextTokens.{amount, invalid, at_most, number_kind, negative_kind}
use Rattle.text.specs.declared.tokens.Kind.TheVariants.{Number, Amount, Invalid}
use Rattle.text.specs.Scan.{NumberKind, NegativeKind}

pub arity_kind : (n : ℕ) → n ≤ 15 → NumberKind n (Number n)
unfolding number_kind
arity_kind n h = λ v e.
    let s : n ≡ v = omega arith in
    record { same = sym (rw (le-leb v 15 (omega arith), number_kind) refl); value = λ w q. let t : w ≡ n = cc in t ∙ s; other = (λ q. cc, λ m q. cc) }

pub amount_kind : (n : ℕ) → 15 < n → n ≤ 32767 → NumberKind n (Amount n)
unfolding number_kind at_most
amount_kind n l h = λ v e.
    let s : n ≡ v = omega arith in
    let k : number_kind v ≡ amount = rw (lt-leb v 15 (omega arith), number_kind) (rw (le-leb v 32767 (omega arith), at_most) refl) in
    record { same = sym k; value = λ w q. let t : w ≡ n = cc in t ∙ s; other = (λ q. cc, λ m q. cc) }

pub no_kind : (n : ℕ) → 32767 < n → NumberKind n Invalid
unfolding number_kind at_most
no_kind n l = λ v e.
    let k : number_kind v ≡ invalid = rw (lt-leb v 15 (omega arith), number_kind) (rw (lt-leb v 32767 (omega arith), at_most) refl) in
    record { same = sym k; value = λ w q. cc; other = (λ q. cc, λ m q. cc) }

pub negative_amount : (n : ℕ) → 1 ≤ n → n ≤ 32768 → NegativeKind n (Amount (65535 - n + 1))
unfolding negative_kind at_most
negative_amount n l h = record {
  given = λ v e.
      let s : n ≡ v = omega arith in
      let k : negative_kind v ≡ amount = rw (le-leb 1 v (omega arith), negative_kind) (rw (le-leb v 32768 (omega arith), at_most) refl) in
      record { same = sym k; value = λ w q. let t : w ≡ 65535 - n + 1 = cc in omega (arith, t, s); other = (λ q. cc, λ m q. cc) };
  negative = λ k q. cc;
}

pub minus_zero : (n : ℕ) → n < 1 → NegativeKind n Invalid
unfolding negative_kind
minus_zero n l = record {
  given = λ v e.
      let k : negative_kind v ≡ invalid = rw (lt-leb 1 v (omega arith), negative_kind) refl in
      record { same = sym k; value = λ w q. cc; other = (λ q. cc, λ m q. cc) };
  negative = λ k q. cc;
}

pub minus_large : (n : ℕ) → 32768 < n → NegativeKind n Invalid
unfolding negative_kind at_most
minus_large n l = record {
  given = λ v e.
      let k : negative_kind v ≡ invalid = rw (le-leb 1 v (omega arith), negative_kind) (rw (lt-leb v 32768 (omega arith), at_most) refl) in
      record { same = sym k; value = λ w q. cc; other = (λ q. cc, λ m q. cc) };
  negative = λ k q. cc;
}
