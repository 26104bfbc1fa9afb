-- The symbol that terms begin with, in their cells; and terms that begin with different symbols. Assumes nothing.
use Prim.Native.Nat.{ℕ, ◌<◌, ◌≤◌}
use mathlib.Core.Path.{◌≡◌, refl}
use mathlib.Core.List.{List}
use mathlib.Core.Option.{none}
use native.Mathlib.Omega.{arith}
use lib.ListN.{get_or}
use Rattle.std.proofs.Common.{Some, None}
use Rattle.rules.specs.Terms.{Terms, var, app, nil, cons, count}
use Rattle.rules.specs.Cells.{write_terms}
use Rattle.rules.specs.Unification.{unify, fails}
use Rattle.rules.specs.Syntax.{Literal, Clause}
use Rattle.rules.specs.Resolution.{fresh, resolved, resolvent}
use Rattle.rules.proofs.UnifyLaws.{unify-differ}
use Rattle.matching.specs.Written.{Fits}
use Rattle.resolvents.specs.Deriving.{leading_symbol, equations_of, IsAttempt}
use Rattle.resolvents.specs.declared.resolve.Resolved.{Resolved}
use Rattle.std.specs.Prelude as std

pub none-leads : (ts : Terms) → count ts ≡ 0 → leading_symbol ts ≡ None
none-leads nil e = refl
none-leads (cons t ts) e = absurd (omega (arith, e))

pub some-leads : (ts : Terms) (rest : List ℕ) → 0 < count ts → get_or (write_terms ts rest) 0 0 < 32768 → leading_symbol ts ≡ Some (get_or (write_terms ts rest) 0 0)
some-leads nil rest h l = absurd (omega (arith, h))
some-leads (cons (var v) ts) rest h l = absurd (omega (arith, l))
some-leads (cons (app f us) ts) rest h l = refl

pub variable-leads : (ar : List ℕ) (ts : Terms) (rest : List ℕ) → Fits ar ts → 32768 ≤ get_or (write_terms ts rest) 0 0 → leading_symbol ts ≡ None
variable-leads ar nil rest f l = refl
variable-leads ar (cons (var v) ts) rest f l = refl
variable-leads ar (cons (app g us) ts) rest f l = absurd (omega (arith, l, f.0.0))

pub leads-some : (ts : Terms) (f : ℕ) → Some f ≡ leading_symbol ts → 0 < count ts
leads-some nil f e = cc
leads-some (cons t ts) f e = omega arith

-- The terms us are made fresh.
pub leading-differs :
    (ts us : Terms) (rest : List ℕ) (f N : ℕ) → Some f ≡ leading_symbol ts → count ts ≡ count us → get_or (write_terms us rest) 0 0 < 32768
    → (get_or (write_terms us rest) 0 0 ≡ f → ⊥) → unify ts (fresh N us) ≡ fails 1
leading-differs nil us rest f N e q l d = cc
leading-differs (cons (var v) ts) us rest f N e q l d = cc
leading-differs (cons (app h vs) ts) nil rest f N e q l d = absurd (omega (arith, q))
leading-differs (cons (app h vs) ts) (cons (var v) us) rest f N e q l d = absurd (omega (arith, l))
leading-differs (cons (app h vs) ts) (cons (app g ws) us) rest f N e q l d = unify-differ _ _ h g _ _ (λ z. let same : f ≡ h = cc in d cc)

-- A clause that fails at its first equation gives nothing, and takes one.
pub failed-attempt :
    (n : ℕ) (answer_terms : Terms) (before : List Literal) (ts : Terms) (after : List Literal) (c : Clause) (left : ℕ) (child : List ℕ) (r : std.Option (Resolved × ℕ))
    → unify ts (fresh n c.arguments) ≡ fails 1 → IsAttempt none 1 left child r → IsAttempt (resolvent n answer_terms before ts after c) (equations_of n ts c) left child r
unfolding resolvent resolved
failed-attempt n answer_terms before ts after c left child r e w = rw e w
