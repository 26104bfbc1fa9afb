-- A level keeps what its goals cover, wherever it stops; one that succeeds shows its goal possible, one that finishes with nothing parked
-- shows that it is not (Clark's theorem 2), so that a negative literal's step keeps the cover. All of it for two readings, from I before to I after
-- and from J after to J before (`OneWay`); with two values they are one.
use Prim.Native.Nat.{ℕ, zero, suc, ◌+◌}
use mathlib.Core.Path.{◌≡◌, refl, sym, ◌∙◌, subst}
use mathlib.Core.Logic.{◌≢◌, inl, inr}
use mathlib.Core.Bool.{Bool, true, false}
use mathlib.Core.List.Memᴰ
use mathlib.Core.List.{List, [], ◌∷◌, ◌++◌}
use native.Mathlib.Omega.{arith}
use lib.Dec.{leb}
use Rattle.rules.specs.Terms.{Terms, nil}
use Rattle.rules.specs.Syntax.{Literal, pos, neg, Clause, Goal}
use Rattle.rules.specs.Goals.{Mark, undecided, Marked, marked, goal_words, words_of}
use Rattle.rules.specs.Resolution.{Selection, nothing, positive, negative, select, resolvents, any_oversized, cost_of}
use Rattle.rules.specs.Evaluation.{finished, budget, answers, store, Level, start_level, with_pending, with_parked, with_answer, Place, zeroth, deeper, held, Act, no_literals, park, derive, decide, derive_act, decide_act, selected_act, literals_act, act_of, Question, question, Next, halt, step, success, ask, answer_step, act_step, unless_over, check_store, Account, pay, succeeded, stopped, Ended, ended, Verdict, succeeds, fails, unsettled, interrupted, Reply, reply, verdict_of, reply_of, close, proceed, decide_by, unasked, next_from, next_of, turn, evaluate_level}
use Rattle.rules.specs.Meaning.{Inds, node, inil, Filling, evals, Reading, Holds, Some, CoversBy}
use Rattle.rules.proofs.Existence.{Existence, Into, into-same, into-then, some_left, some_right, some-split}
use Rattle.rules.proofs.SelectLaws.{Selected, select-selected}
use Rattle.rules.proofs.NextLaws.{either}
use Rattle.rules.proofs.Values.{evals-on, holds-append}
use Rattle.rules.proofs.ResolventSound.{goal_of, OneWay, resolvents-sound}

-- A goal that covers some choice.
abbrev pub Possible : Reading → Goal → Type 0
Possible I g = (choice : Inds) × CoversBy I choice g

-- Some goal of a level covers the choice.
pub data Open (I : Reading) (choice : Inds) (l : Level) : Type 0 where
  in_answers : Some (CoversBy I choice) l.answers → Open I choice l
  in_pending : Some (CoversBy I choice) l.pending → Open I choice l
  in_parked : Some (λ m. CoversBy I choice m.goal) l.parked → Open I choice l

abbrev pub level : List Goal → List Marked → List Goal → Level
level gs ms hs = record { pending = gs; parked = ms; answers = hs }

-- WHAT AN ACT SAYS OF ITS GOAL
module _ (X : Existence) (I J : Reading) where
  -- The goal has no literals; the derived goals cover what it covers; if the atom is in J the goal covers nothing in I, and if it is not
  -- in I the goal covers what it covers without the literal.
  abbrev ActSound : Goal → Act → Type 0
  ActSound g no_literals = g.literals ≡ []
  ActSound g (park m) = Unit {0}
  ActSound g (derive ds) = (choice : Inds) → Into X (Some (CoversBy I choice)) (Some (CoversBy J choice)) (g ∷ []) ds
  ActSound g (decide p ts others) =
      ((ν : Filling) → J.inside p (evals ν ts) → Possible I g → X.Absurd)
      × (((ν : Filling) → I.inside p (evals ν ts) → X.Absurd) → (choice : Inds)
      → (CoversBy I choice g → CoversBy I choice (goal_of g.answer_terms others)) × (CoversBy J choice (goal_of g.answer_terms others) → CoversBy J choice g))

  -- A selected negative literal has no variables, so that its atom is one.
  decide-sound :
      (clauses : List Clause) → OneWay X I J clauses
      → (below : ℕ) (g : Goal) (before : List Literal) (p : ℕ) (ts : Terms) (after : List Literal) → Selected g.literals (negative before p ts after)
      → ActSound g (decide_act below p ts (before ++ after))
  unfolding decide_act
  decide-sound clauses way zero g before p ts after s = tt
  decide-sound clauses way (suc below) g before p ts after s = (
    λ ν a k. way.apart p (evals ν ts) a (subst (I.outside p) (one k.1.0 ν) (parts k.1.0 k.1.2).1.0),
    λ n choice. (
      λ k. (k.0, k.1, (holds-append I k.0 before after).1 ((parts k.0 k.2).0, (parts k.0 k.2).1.1)),
      λ k.
          let r = (holds-append J k.0 before after).0 k.2 in
          let absent : J.outside p (evals k.0 ts) = way.other p (evals k.0 ts) (n k.0) in
          (k.0, k.1, subst (Holds J k.0) (sym s.0) ((holds-append J k.0 before (neg p ts ∷ after)).1 (r.0, (absent, r.1)))),
    ),
  )
    where
      parts : (ν : Filling) → Holds I ν g.literals → Holds I ν before × Holds I ν (neg p ts ∷ after)
      parts ν h = (holds-append I ν before (neg p ts ∷ after)).0 (subst (Holds I ν) s.0 h)

      one : (ν μ : Filling) → evals ν ts ≡ evals μ ts
      one ν μ = (evals-on ν μ ts [] (λ v h. absurd (Memᴰ.not-nil (rw s.1 at h)))).0

  derive-sound : (g : Goal) (ds : List Goal) → ActSound g (derive ds) → ActSound g (derive_act ds)
  unfolding derive_act
  derive-sound g ds h = go (any_oversized ds) refl
    where
      go : (b : Bool) → any_oversized ds ≡ b → ActSound g (derive_act ds)
      go true e = rw (e, derive_act) tt
      go false e = rw (e, derive_act) h

  module _ (clauses : List Clause) (way : OneWay X I J clauses) (below : ℕ) (g : Goal) where
    selected-sound : (s : Selection) → Selected g.literals s → ActSound g (selected_act clauses below g s)
    unfolding selected_act
    selected-sound nothing h = tt
    selected-sound (positive before p ts after) h = derive-sound g (resolvents clauses g before p ts after) (λ choice. resolvents-sound X I J clauses way choice g before p ts after h)
    selected-sound (negative before p ts after) h = decide-sound clauses way below g before p ts after h

    act-sound : ActSound g (act_of clauses below g)
    unfolding act_of literals_act
    act-sound = go g.literals refl
      where
        go : (ls : List Literal) → g.literals ≡ ls → ActSound g (literals_act clauses below g ls)
        go [] e = e
        go (l ∷ ls) e = selected-sound (select (l ∷ ls)) (rw e (select-selected (l ∷ ls)))

-- WHAT IS NEXT SAYS OF ITS LEVEL
module _ (X : Existence) (I J : Reading) where
  -- What a level's goals cover in I another's do, and what those cover in J the first do.
  abbrev pub SameCover : Level → Level → Type 0
  SameCover l l' = (choice : Inds) → Into X (Open I choice) (Open J choice) l l'

  module _ (g : Goal) (gs : List Goal) (ms : List Marked) (hs : List Goal) where
    -- Goals in place of the first one, which cover the same.
    replaced : (ds : List Goal) → ((choice : Inds) → Into X (Some (CoversBy I choice)) (Some (CoversBy J choice)) (g ∷ []) ds) → SameCover (level (g ∷ gs) ms hs) (level (ds ++ gs) ms hs)
    replaced ds i choice = (on, back)
      where
        on : Open I choice (level (g ∷ gs) ms hs) → X.M (Open I choice (level (ds ++ gs) ms hs))
        on (in_answers h) = X.unit (in_answers h)
        on (in_pending (inl h)) = X.bind ((i choice).0 (inl h)) (λ k. X.unit (in_pending (some_left (CoversBy I choice) ds gs k)))
        on (in_pending (inr h)) = X.unit (in_pending (some_right (CoversBy I choice) ds gs h))
        on (in_parked h) = X.unit (in_parked h)

        back : Open J choice (level (ds ++ gs) ms hs) → Open J choice (level (g ∷ gs) ms hs)
        back (in_answers h) = in_answers h
        back (in_pending h) = elim (some-split (CoversBy J choice) ds gs h) [ inl k ↦ elim ((i choice).1 k) [ inl c ↦ in_pending (inl c) | inr b ↦ absurd b ] | inr k ↦ in_pending (inr k) ]
        back (in_parked h) = in_parked h

    -- The first goal parked.
    parking : (m : Mark) → SameCover (level (g ∷ gs) ms hs) (level gs (ms ++ (marked m g ∷ [])) hs)
    parking m choice = (λ h. X.unit (on h), back)
      where
        Covers : Reading → Marked → Type 0
        Covers R k = CoversBy R choice k.goal

        on : Open I choice (level (g ∷ gs) ms hs) → Open I choice (level gs (ms ++ (marked m g ∷ [])) hs)
        on (in_answers h) = in_answers h
        on (in_pending (inl h)) = in_parked (some_right (Covers I) ms (marked m g ∷ []) (inl h))
        on (in_pending (inr h)) = in_pending h
        on (in_parked h) = in_parked (some_left (Covers I) ms (marked m g ∷ []) h)

        back : Open J choice (level gs (ms ++ (marked m g ∷ [])) hs) → Open J choice (level (g ∷ gs) ms hs)
        back (in_answers h) = in_answers h
        back (in_pending h) = in_pending (inr h)
        back (in_parked h) = elim (some-split (Covers J) ms (marked m g ∷ []) h) [ inl k ↦ in_parked k | inr k ↦ elim k [ inl c ↦ in_pending (inl c) | inr b ↦ absurd b ] ]

    -- The first goal moved to the answers.
    answering : SameCover (level (g ∷ gs) ms hs) (level gs ms (hs ++ (g ∷ [])))
    answering choice = (λ h. X.unit (on h), back)
      where
        on : Open I choice (level (g ∷ gs) ms hs) → Open I choice (level gs ms (hs ++ (g ∷ [])))
        on (in_answers h) = in_answers (some_left (CoversBy I choice) hs (g ∷ []) h)
        on (in_pending (inl h)) = in_answers (some_right (CoversBy I choice) hs (g ∷ []) (inl h))
        on (in_pending (inr h)) = in_pending h
        on (in_parked h) = in_parked h

        back : Open J choice (level gs ms (hs ++ (g ∷ []))) → Open J choice (level (g ∷ gs) ms hs)
        back (in_answers h) = elim (some-split (CoversBy J choice) hs (g ∷ []) h) [ inl k ↦ in_answers k | inr k ↦ elim k [ inl c ↦ in_pending (inl c) | inr b ↦ absurd b ] ]
        back (in_pending h) = in_pending (inr h)
        back (in_parked h) = in_parked h

  -- A deeper level lists no answers.
  abbrev pub SameAnswers : Place → Level → Level → Type 0
  SameAnswers zeroth l l' = Unit {0}
  SameAnswers (deeper outer) l l' = l'.answers ≡ l.answers

  abbrev pub Same : Place → Level → Level → Type 0
  Same at l l' = SameCover l l' × SameAnswers at l l'

  same-answers : (at : Place) (l l' : Level) → l'.answers ≡ l.answers → SameAnswers at l l'
  same-answers zeroth l l' e = tt
  same-answers (deeper outer) l l' e = e

  -- A level that has succeeded has a goal that covers some choice; level 0 does not succeed.
  abbrev pub Won : Place → Level → Type 0
  Won zeroth l = ⊥
  Won (deeper outer) l = (choice : Inds) × Open J choice l

  -- The outer level when the question's goal is possible, when it is not, and when this is not known.
  pub record QuestionSound (at : Place) (l : Level) (q : Question) : Type 0 where
    pub on_success : Possible J q.goal → Same at l q.on_success
    pub on_failure : (Possible I q.goal → X.Absurd) → Same at l q.on_failure
    pub on_unsettled : Same at l q.on_unsettled

  abbrev NextSound : Place → Level → Next → Type 0
  NextSound at l (halt s) = s ≡ finished → l.pending ≡ []
  NextSound at l (step l') = Same at l l'
  NextSound at l success = Won at l
  NextSound at l (ask q) = QuestionSound at l q

  budget-not : budget ≢ finished
  budget-not e = let z : ◌≡◌ {A = ℕ} 0 1 = cc in omega arith

  answers-not : answers ≢ finished
  answers-not e = let z : ◌≡◌ {A = ℕ} 0 1 = cc in omega arith

  store-not : store ≢ finished
  store-not e = let z : ◌≡◌ {A = ℕ} 0 1 = cc in omega arith

  -- A goal without literals covers a choice.
  bare-covers : (g : Goal) → g.literals ≡ [] → Possible J g
  bare-covers g e = let ν : Filling = λ v. node 0 inil in (evals ν g.answer_terms, (ν, refl, rw e tt))

  module _ (g : Goal) (gs : List Goal) (ms : List Marked) (hs : List Goal) where
    abbrev here : Level
    here = level (g ∷ gs) ms hs

    question-sound : (at : Place) (p : ℕ) (ts : Terms) (others : List Literal) → ActSound X I J g (decide p ts others) → QuestionSound at here (question at here g gs p ts others)
    unfolding question with_pending with_parked
    question-sound at p ts others s = record {
      on_success = λ k. (
        replaced g gs ms hs [] (λ choice. (λ c. elim c [ inl d ↦ X.raise (s.0 k.1.0 k.1.2.0 (choice, d)) | inr b ↦ absurd b ], λ b. absurd b)),
        same-answers at here _ refl,
      );
      on_failure = λ n. (
        replaced g gs ms hs (goal_of g.answer_terms others ∷ []) (λ choice.
            let i = s.1 (λ ν a. n (evals ν nil, (ν, refl, (a, tt)))) choice in
            (λ c. elim c [ inl k ↦ X.unit (inl (i.0 k)) | inr b ↦ absurd b ], λ c. elim c [ inl k ↦ inl (i.1 k) | inr b ↦ absurd b ])),
        same-answers at here _ refl,
      );
      on_unsettled = (parking g gs ms hs undecided, same-answers at here _ refl);
    }

    answer-sound : (answer_room : ℕ) (at : Place) → g.literals ≡ [] → NextSound at here (answer_step answer_room at here g gs)
    unfolding answer_step with_answer
    answer-sound answer_room zeroth e = go (leb (words_of hs + goal_words g) answer_room) refl
      where
        go : (b : Bool) → leb (words_of hs + goal_words g) answer_room ≡ b → NextSound zeroth here (answer_step answer_room zeroth here g gs)
        go true r = rw (r, answer_step) (answering g gs ms hs, tt)
        go false r = rw (r, answer_step) (λ k. absurd (answers-not k))
    answer-sound answer_room (deeper outer) e = let k = bare-covers g e in (k.0, in_pending (inl k.1))

    act-step-sound : (answer_room : ℕ) (at : Place) (a : Act) → ActSound X I J g a → NextSound at here (act_step answer_room at here g gs a)
    unfolding act_step with_parked with_pending
    act-step-sound answer_room at no_literals s = answer-sound answer_room at s
    act-step-sound answer_room at (park m) s = (parking g gs ms hs m, same-answers at _ _ refl)
    act-step-sound answer_room at (derive ds) s = (replaced g gs ms hs ds s, same-answers at _ _ refl)
    act-step-sound answer_room at (decide p ts others) s = question-sound at p ts others s

  unless-sound : (store_size words : ℕ) (at : Place) (l : Level) (next : Next) → NextSound at l next → NextSound at l (unless_over store_size words next)
  unfolding unless_over
  unless-sound store_size words at l next h = go (leb words store_size) refl
    where
      go : (b : Bool) → leb words store_size ≡ b → NextSound at l (unless_over store_size words next)
      go true e = rw (e, unless_over) h
      go false e = rw (e, unless_over) (λ k. absurd (store-not k))

  check_sound : (store_size : ℕ) (at : Place) (l : Level) (next : Next) → NextSound at l next → NextSound at l (check_store store_size at next)
  unfolding check_store
  check_sound store_size at l (halt s) h = h
  check_sound store_size at l (step l') h = unless-sound store_size (held at l') at l (step l') h
  check_sound store_size at l success h = h
  check_sound store_size at l (ask q) h = unless-sound store_size (q.held_outside + goal_words q.goal) at l (ask q) h

  next-sound :
      (clauses : List Clause) → OneWay X I J clauses → (answer_room store_size below : ℕ) (at : Place) (gs : List Goal) (ms : List Marked) (hs : List Goal) (left : ℕ)
      → NextSound at (level gs ms hs) (next_of clauses answer_room store_size below at (level gs ms hs) left)
  unfolding next_of next_from
  next-sound clauses way answer_room store_size below at [] ms hs left = λ k. refl
  next-sound clauses way answer_room store_size below at (g ∷ gs) ms hs left =
      either (NextSound at (level (g ∷ gs) ms hs)) (leb (cost_of clauses g) left) _ (halt budget)
      (λ e. check_sound store_size at (level (g ∷ gs) ms hs) _ (act-step-sound g gs ms hs answer_room at (act_of clauses below g) (act-sound X I J clauses way below g)))
      (λ e k. absurd (budget-not k))

  -- WHAT AN END SAYS OF THE LEVEL THAT IT BEGAN AS
  abbrev pub EndedSound : Place → Level → Ended → Type 0
  EndedSound at l (ended succeeded l' left) = Won at l
  EndedSound at l (ended (stopped s) l' left) = Same at l l' × (s ≡ finished → l'.pending ≡ [])

  -- What a new level tells of its goal.
  abbrev pub VerdictSound : Goal → Verdict → Type 0
  VerdictSound g succeeds = Possible J g
  VerdictSound g fails = Possible I g → X.Absurd
  VerdictSound g unsettled = Unit {0}
  VerdictSound g (interrupted s) = s ≢ finished

  abbrev ReplySound : Goal → Reply → Type 0
  ReplySound g (reply v left) = VerdictSound g v

  same-level : (at : Place) (l : Level) → Same at l l
  same-level at l = (λ choice. into-same X (Open I choice) (Open J choice) l, same-answers at l l refl)

  -- A step to a level, and then its end.
  after : (at : Place) (l l' : Level) → Same at l l' → (e : Ended) → EndedSound at l' e → EndedSound at l e
  after zeroth l l' s (ended succeeded m left) h = h
  after (deeper outer) l l' s (ended succeeded m left) h = (h.0, (s.0 h.0).1 h.1)
  after zeroth l l' s (ended (stopped w) m left) h = ((λ choice. into-then X (Open I choice) (Open J choice) l l' m (s.0 choice) (h.0.0 choice), tt), h.1)
  after (deeper outer) l l' s (ended (stopped w) m left) h = ((λ choice. into-then X (Open I choice) (Open J choice) l l' m (s.0 choice) (h.0.0 choice), h.0.1 ∙ s.1), h.1)

  module _ (again : Level → Account → Ended) (at : Place) (ok : (l : Level) (left : Account) → EndedSound at l (again l left)) where
    close-sound : (l : Level) (q : Question) (r : Reply) → QuestionSound at l q → ReplySound q.goal r → EndedSound at l (close again l q r)
    unfolding close
    close-sound l q (reply succeeds left) s d = after at l q.on_success (s.on_success d) (again q.on_success left) (ok q.on_success left)
    close-sound l q (reply fails left) s d = after at l q.on_failure (s.on_failure d) (again q.on_failure left) (ok q.on_failure left)
    close-sound l q (reply unsettled left) s d = after at l q.on_unsettled s.on_unsettled (again q.on_unsettled left) (ok q.on_unsettled left)
    close-sound l q (reply (interrupted w) left) s d = (same-level at l, λ k. absurd (d k))

    proceed-sound :
        (decides : Question → Account → Reply) → ((q : Question) (left : Account) → ReplySound q.goal (decides q left)) → (l : Level) (left paid : Account) (next : Next) → NextSound at l next
        → EndedSound at l (proceed again decides l left paid next)
    unfolding proceed
    proceed-sound decides d l left paid (halt s) n = (same-level at l, n)
    proceed-sound decides d l left paid (step l') n = after at l l' n (again l' paid) (ok l' paid)
    proceed-sound decides d l left paid success n = n
    proceed-sound decides d l left paid (ask q) n = close-sound l q (decides q paid) n (d q paid)

  -- A level that was started on one goal decides it.
  start-open : (choice : Inds) (g : Goal) → Open J choice (start_level g) → CoversBy J choice g
  unfolding start_level
  start-open choice g (in_answers h) = absurd h
  start-open choice g (in_pending (inl h)) = h
  start-open choice g (in_pending (inr h)) = absurd h
  start-open choice g (in_parked h) = absurd h

  open-start : (choice : Inds) (g : Goal) → CoversBy I choice g → Open I choice (start_level g)
  unfolding start_level
  open-start choice g h = in_pending (inl h)

  nothing-open : (choice : Inds) (l : Level) → l.answers ≡ [] → l.pending ≡ [] → l.parked ≡ [] → ¬ Open I choice l
  nothing-open choice l a p k (in_answers h) = subst (Some (CoversBy I choice)) a h
  nothing-open choice l a p k (in_pending h) = subst (Some (CoversBy I choice)) p h
  nothing-open choice l a p k (in_parked h) = subst (Some (λ m. CoversBy I choice m.goal)) k h

  reply-sound : (outer : ℕ) (g : Goal) (e : Ended) → EndedSound (deeper outer) (start_level g) e → ReplySound g (reply_of e)
  unfolding reply_of verdict_of start_level
  reply-sound outer g (ended succeeded l left) h = (h.0, start-open h.0 g h.1)
  reply-sound outer g (ended (stopped finished) l left) h = go l.parked refl
    where
      go : (ms : List Marked) → l.parked ≡ ms → VerdictSound g (verdict_of (stopped finished) ms)
      go [] e = λ k. X.never (X.bind ((h.0.0 k.0).0 (open-start k.0 g k.1)) (λ o. absurd (nothing-open k.0 l h.0.1 (h.1 refl) e o)))
      go (m ∷ ms) e = tt
  reply-sound outer g (ended (stopped budget) l left) h = budget-not
  reply-sound outer g (ended (stopped answers) l left) h = answers-not
  reply-sound outer g (ended (stopped store) l left) h = store-not

-- THE LEVEL, from any goals, whatever the limits and wherever it stops
module _ (X : Existence) (I J : Reading) (clauses : List Clause) (way : OneWay X I J clauses) (answer_room store_size : ℕ) where
  pub turn-sound :
      (decides : Question → Account → Reply) → ((q : Question) (left : Account) → ReplySound X I J q.goal (decides q left))
      → (below : ℕ) (at : Place) (fuel : ℕ) (l : Level) (left : Account) → EndedSound X I J at l (turn clauses answer_room store_size decides below at fuel l left)
  unfolding turn
  turn-sound decides d below at zero l left = (same-level X I J at l, λ k. absurd (budget-not X I J k))
  turn-sound decides d below at (suc fuel) l left =
      proceed-sound X I J (turn clauses answer_room store_size decides below at fuel) at (turn-sound decides d below at fuel) decides d l left (pay clauses l left) (next_of clauses answer_room store_size below at l left.left)
      (next-sound X I J clauses way answer_room store_size below at l.pending l.parked l.answers left.left)

  decides-sound :
      (evaluates : Place → Level → Account → Ended) → ((at : Place) (l : Level) (left : Account) → EndedSound X I J at l (evaluates at l left))
      → (q : Question) (left : Account) → ReplySound X I J q.goal (decide_by evaluates q left)
  unfolding decide_by
  decides-sound evaluates ok q left = reply-sound X I J q.held_outside q.goal _ (ok (deeper q.held_outside) (start_level q.goal) left)

  pub level-sound : (below : ℕ) (at : Place) (l : Level) (left : Account) → EndedSound X I J at l (evaluate_level clauses answer_room store_size below at l left)
  unfolding evaluate_level unasked
  level-sound zero at l left = turn-sound unasked (λ q m. tt) zero at (suc left.left) l left
  level-sound (suc below) at l left =
      turn-sound (decide_by (evaluate_level clauses answer_room store_size below)) (decides-sound (evaluate_level clauses answer_room store_size below) (level-sound below)) (suc below) at (suc left.left) l left

  -- Clark's theorem 2, for a new level on an atom: if it succeeds the atom is in J under some filling of its variables (it has none where a
  -- level starts), and if it finishes with nothing parked the atom is in I under none.
  module _ (below outer : ℕ) (p : ℕ) (ts : Terms) (left m : Account) where
    abbrev atom : Goal
    atom = goal_of nil (pos p ts ∷ [])

    abbrev replied : Reply
    replied = reply_of (evaluate_level clauses answer_room store_size below (deeper outer) (start_level atom) left)

    atom-sound : ReplySound X I J atom replied
    atom-sound = reply-sound X I J outer atom _ (level-sound below (deeper outer) (start_level atom) left)

    pub level-proves : replied ≡ reply succeeds m → (ν : Filling) × J.inside p (evals ν ts)
    level-proves e = let h : Possible J atom = subst (ReplySound X I J atom) e atom-sound in (h.1.0, h.1.2.0)

    pub level-disproves : replied ≡ reply fails m → (ν : Filling) → I.inside p (evals ν ts) → X.Absurd
    level-disproves e ν a = let h : Possible I atom → X.Absurd = subst (ReplySound X I J atom) e atom-sound in h (inil, (ν, refl, (a, tt)))
