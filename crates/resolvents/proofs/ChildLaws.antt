-- The derived goal's words: its terms written one range after another under one numbering, and then its two first words.
use Prim.Native.Nat.{ℕ, suc, ◌+◌, ◌-◌, ◌≤◌}
use mathlib.Core.Path.{◌≡◌, sym, ◌∙◌, ap, ap₂, subst}
use mathlib.Core.List.{List, [], ◌∷◌}
use native.Mathlib.Omega.{arith}
use lib.ListN.{length, take, drop, set}
use lib.Seq.{sets, sets-eq, take-append_seam}
use Rattle.rules.specs.Terms.{Terms, ◌+++◌, sizes}
use Rattle.rules.specs.Unification.{Unification, solved, equations, applys}
use Rattle.rules.proofs.TermLaws.{sizes-join, join-assoc}
use Rattle.matching.specs.Taking.{drop_t}
use Rattle.matching.specs.Cells.{from, term_at}
use Rattle.matching.specs.Bindings.{Places, elims, Ready}
use Rattle.matching.proofs.CellLaws.{from_cons}
use Rattle.resolvents.specs.Naming.{within, order_after, cells_under, Wrote}
use Rattle.resolvents.specs.declared.resolve.Call.{Call}
use Rattle.resolvents.specs.Child.{range_after, literals_after, IsChild, DerivedBy, place_after, literals_before, GoalThenClause}
use Rattle.std.specs.Prelude.{Option, Result, Ok, Err}
use Rattle.resolvents.specs.declared.put.Full.{Full}
use Rattle.resolvents.specs.declared.resolve.Resolved.{Resolved}
use Rattle.resolvents.specs.declared.resolve.Resolved.TheVariants.{Child}
use Rattle.resolvents.proofs.WroteLaws.{length-under, wrote-join, wrote-full, wrote-length}
use Rattle.resolvents.proofs.WalkLaws.{applys-append}
use Rattle.resolvents.proofs.RowLaws.{skipped}

-- WHAT IS WRITTEN
-- The answer terms, and then three ranges of literals.
module _ {out order out₁ order₁ : List ℕ} {names₁ : List (Option ℕ)} {m m₁ e : ℕ} {ans : Terms} (w : Wrote out order 2 m ans out₁ names₁ order₁ m₁ (Ok e)) where
  pub goal-narrow : 2 ≤ e
  goal-narrow = omega (arith, w.tells.0)

  pub goal-width : e - 2 ≡ sizes ans
  goal-width = omega (arith, w.tells.0)

  module _ {out₂ order₂ : List ℕ} {names₂ : List (Option ℕ)} {m₂ : ℕ} {bs : Terms} where
    -- The first does not fit.
    pub goal-first-full : {why : Full} (ds cs : Terms) → Wrote out₁ order₁ e m₁ bs out₂ names₂ order₂ m₂ (Err why) → Wrote out order 2 m (ans +++ (bs +++ (ds +++ cs))) out₂ names₂ order₂ m₂ (Err why)
    goal-first-full ds cs v = subst (λ ts. Wrote out order 2 m ts out₂ names₂ order₂ m₂ (Err _)) (join-assoc ans bs (ds +++ cs)) (wrote-full (ds +++ cs) (wrote-join w v))

    module _ {e₂ : ℕ} (v : Wrote out₁ order₁ e m₁ bs out₂ names₂ order₂ m₂ (Ok e₂)) {out₃ order₃ : List ℕ} {names₃ : List (Option ℕ)} {m₃ : ℕ} {ds : Terms} where
      -- The second does not.
      pub goal-second-full : {why : Full} (cs : Terms) → Wrote out₂ order₂ e₂ m₂ ds out₃ names₃ order₃ m₃ (Err why) → Wrote out order 2 m (ans +++ (bs +++ (ds +++ cs))) out₃ names₃ order₃ m₃ (Err why)
      goal-second-full cs u =
          subst (λ ts. Wrote out order 2 m ts out₃ names₃ order₃ m₃ (Err _)) (join-assoc (ans +++ bs) ds cs ∙ join-assoc ans bs (ds +++ cs)) (wrote-full cs (wrote-join (wrote-join w v) u))

      -- The third.
      pub goal-all : {e₃ : ℕ} → Wrote out₂ order₂ e₂ m₂ ds out₃ names₃ order₃ m₃ (Ok e₃) → {out₄ order₄ : List ℕ} {names₄ : List (Option ℕ)} {m₄ : ℕ} {cs : Terms} {r : Result ℕ Full} → Wrote out₃ order₃ e₃ m₃ cs out₄ names₄ order₄ m₄ r → Wrote out order 2 m (ans +++ (bs +++ (ds +++ cs))) out₄ names₄ order₄ m₄ r
      goal-all u {out₄} {order₄} {names₄} {m₄} {cs} {r} x =
          subst (λ ts. Wrote out order 2 m ts out₄ names₄ order₄ m₄ r) (join-assoc (ans +++ bs) ds cs ∙ join-assoc ans bs (ds +++ cs)) (wrote-join (wrote-join (wrote-join w v) u) x)

-- THE WORDS
-- Two words before the others.
framed : (out xs : List ℕ) (a b : ℕ) → 2 + length xs ≤ length out → take (suc (suc (length xs))) (set (set (sets out 2 xs) 0 a) 1 b) ≡ a ∷ b ∷ xs
framed [] xs a b h = absurd (omega arith)
framed (x ∷ []) xs a b h = absurd (omega arith)
framed (x ∷ y ∷ zs) xs a b h =
    ap (λ l. take (suc (suc (length xs))) (set (set l 0 a) 1 b)) (sets-eq xs (x ∷ y ∷ zs) 2 h)
    ∙ ap (λ l. a ∷ b ∷ l) (take-append_seam xs (drop (2 + length xs) (x ∷ y ∷ zs)))

module _ {out order : List ℕ} (A L : Terms) {out' order' : List ℕ} {names' : List (Option ℕ)} {m' : ℕ} (long : length out ≡ 1024) where
  pub child-narrow : {m end width : ℕ} → width ≡ sizes A → Wrote out order 2 m (A +++ L) out' names' order' m' (Ok end) → (width ≤ 1024) × (end ≤ 1024) × (length out' ≡ 1024)
  child-narrow wide w = (omega (arith, w.tells.0, w.tells.1, sizes-join A L), omega (arith, w.tells.1), wrote-length w ∙ long)

  pub child-written : {m end width : ℕ} → m ≡ 0 → width ≡ sizes A → Wrote out order 2 m (A +++ L) out' names' order' m' (Ok end) → IsChild A L (set (set out' 0 end) 1 width) (Child end)
  child-written {m} {end} {width} none wide v = (omega (arith, w.tells.0), omega (arith, w.tells.1), words)
    where
      w : Wrote out order 2 0 (A +++ L) out' names' order' m' (Ok end)
      w = subst (λ k. Wrote out order 2 k (A +++ L) out' names' order' m' (Ok end)) none v

      xs : List ℕ
      xs = cells_under (order_after [] (A +++ L)) (A +++ L)

      ends : end ≡ suc (suc (length xs))
      ends = omega (arith, w.tells.0, length-under (order_after [] (A +++ L)) (A +++ L))

      words : take end (set (set out' 0 end) 1 width) ≡ end ∷ sizes A ∷ xs
      words =
          ap (take end) (ap₂ (λ l n. set (set l 0 end) 1 n) w.tells.3 wide)
          ∙ ap (λ n. take n (set (set (sets out 2 xs) 0 end) 1 (sizes A))) ends
          ∙ framed out xs end (sizes A) (omega (arith, ends, w.tells.1))

-- AFTER UNIFICATION
-- What is left after the equations.
pub rest-left : {u v : Unification} {left : ℕ} (rest : ℕ) → u ≡ v → equations v + rest ≡ left → equations u + rest ≡ left
rest-left rest e q = ap (λ x. equations x + rest) e ∙ q

-- The substitution goes through the ranges of literals.
module _ (ar cells : List ℕ) (bs : Places) (trail : List ℕ) (n : ℕ) (call : Call) (body : ℕ) (here : body ≡ place_after ar cells call.len) where
  literals-after : applys (elims ar cells bs trail n) (literals_before ar cells call) ≡ literals_after ar cells bs trail n call body
  literals-after =
      let es = elims ar cells bs trail n in
      let B = within ar cells call.answer_cells call.s in
      let C = within ar cells (place_after ar cells call.len) (length cells) in
      let D = within ar cells call.e call.len in
      applys-append es B (D +++ C)
      ∙ ap (applys es B +++◌) (applys-append es D C)
      ∙ ap (λ p. applys es B +++ (applys es D +++ applys es (within ar cells p (length cells)))) (sym here)

  pub derived-solved :
      {o : Unification} (child : List ℕ) (r : Resolved) (k : ℕ) → o ≡ solved k (elims ar cells bs trail n)
      → IsChild (range_after ar cells bs trail n 0 call.answer_cells) (literals_after ar cells bs trail n call body) child r
      → DerivedBy o (within ar cells 0 call.answer_cells) (literals_before ar cells call) child r
  derived-solved child r k q h =
      subst (λ u. DerivedBy u (within ar cells 0 call.answer_cells) (literals_before ar cells call) child r) (sym q)
      (subst (λ ts. IsChild (range_after ar cells bs trail n 0 call.answer_cells) ts child r) (sym literals-after) h)

-- The table of a run has room for the variables.
pub rows-ready : {ar cells : List ℕ} {call : Call} {number : ℕ} {nv room stamps : ℕ} → GoalThenClause ar cells call number → nv ≡ 1280 → room ≡ 1280 → stamps ≡ 1280 → Ready ar cells nv room stamps
rows-ready t bind trail stamps =
    record {
      formed = t.formed;
      named = λ p l h. omega (arith, t.few p l h, bind);
      narrow = omega (arith, bind);
      trailed = omega (arith, bind, trail);
      wide = omega (arith, bind, stamps);
    }

-- The place after the clause's head.
pub head-ends :
    {ar cells : List ℕ} {call : Call} {number : ℕ} (r : ℕ) → GoalThenClause ar cells call number → r ≤ length cells
    → from ar cells r ≡ drop_t 1 (from ar cells call.len) → r ≡ place_after ar cells call.len
head-ends {ar} {cells} {call} r t l d =
    skipped ar cells call.len r (term_at ar cells call.len) (drop_t 1 (from ar cells call.len)) (omega (arith, t.clause)) l (from_cons ar cells call.len t.clause) d
