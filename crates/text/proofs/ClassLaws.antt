-- The table of byte classes.
use Rattle.std.proofs.Common.{◌≡◌, ℕ, ◌<◌, ◌≤◌, get_or, map, refl, ap, sym, ◌∙◌, arith}
use Rattle.std.specs.List.{range_with_len}
use Rattle.std.proofs.lemmas.List.{get_or-map}
use Rattle.std.proofs.lemmas.List.FromFn.{get_or-map-range_with_len}
use Rattle.std.proofs.lemmas.Bool.Decides.{nat_tests}
use Rattle.text_rules.specs.TextTokens.{no_class, ranges, class_in, class_of}
use Rattle.text.specs.declared.classes.Class.TheVariants.{Unknown}
use Rattle.text.specs.declared.classes.TheConstants.{CLASSES}
use Rattle.text.specs.Kinds.{rule_class}

-- The rule of the table, as one test over all of it.
whole-table : map rule_class CLASSES ≡ map class_of (range_with_len 0 128)
unfolding class_of class_in ranges
whole-table = refl

pub in_table : (b : ℕ) → b < 128 → rule_class (get_or CLASSES b Unknown) ≡ class_of b
in_table b h =
    sym (get_or-map rule_class CLASSES b Unknown no_class (omega arith))
    ∙ ap (λ l. get_or l b no_class) whole-table
    ∙ get_or-map-range_with_len class_of 0 128 b b no_class h (omega arith)

-- Bytes above 127 belong to no class.
pub not-in-table : (b : ℕ) → 128 ≤ b → no_class ≡ class_of b
unfolding class_of class_in ranges
not-in-table b h = grind (arith, nat_tests)
