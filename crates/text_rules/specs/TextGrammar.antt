-- The grammar of texts (document 02, U1 and U10), token by token. `fn`, `pr`, `nu` and `v2` are names like any other. Text of a deck of format 2 begins
-- with `v2.`, and numbers are declared in no other.
--
--     text    = [ "v2" "." ] { declaration } { clause }
--     declaration = ( "fn" | "pr" ) name "/" number "." | "nu" name ( number | amount ) "."
--     clause  = atom [ ":-" literal { "," literal } ] "."
--     literal = [ "~" ] atom
--     atom    = name [ "(" term { "," term } ")" ]
--     term    = variable | atom
use Rattle.std.specs.Prelude.{ℕ, zero, suc, Bool, true, false, ◌&&◌, ◌||◌, List, [], ◌∷◌, eqb}
use Rattle.std.proofs.Math.Option.{Option, none, some}
use Rattle.text_rules.specs.TextTokens.{Kind, name, number, amount, variable, implies, slash, dot, opening, closing, comma, tilde, ending, kind_number, Token}

abbrev pub same_kind : Kind → Kind → Bool
same_kind k l = eqb (kind_number k) (kind_number l)

abbrev pub is : Kind → Token → Bool
is k t = same_kind k t.kind

unfoldable pub same_bytes : List ℕ → List ℕ → Bool
same_bytes [] [] = true
same_bytes [] (c ∷ cs) = false
same_bytes (b ∷ bs) [] = false
same_bytes (b ∷ bs) (c ∷ cs) = eqb b c && same_bytes bs cs

-- "fn", "pr"
unfoldable pub fn_text : List ℕ
fn_text = 102 ∷ 110 ∷ []

unfoldable pub pr_text : List ℕ
pr_text = 112 ∷ 114 ∷ []

-- "nu", "v2"
unfoldable pub nu_text : List ℕ
nu_text = 110 ∷ 117 ∷ []

unfoldable pub v2_text : List ℕ
v2_text = 118 ∷ 50 ∷ []

unfoldable pub is_key : Token → Bool
is_key t = is name t && (same_bytes t.bytes fn_text || same_bytes t.bytes pr_text)

unfoldable pub is_number_key : Token → Bool
is_number_key t = is name t && same_bytes t.bytes nu_text

unfoldable pub is_v2 : Token → Bool
is_v2 t = is name t && same_bytes t.bytes v2_text

unfoldable pub is_value : Token → Bool
is_value t = is number t || is amount t

-- A clause's head and its body.
pub data Part : Type 0 where
  head body : Part

-- Where a text stands: before an item, while there was no clause; in a declaration, after `fn` or `pr`, the name, `/`, the arity or a number's value (whether
-- numbers may be declared goes along); after `nu` and its name; before an item, once there was a clause; in a clause, before a literal; after `~`; at the end.
-- In a part of a clause with so many brackets open: before a term, after a name, after a term or an atom.
pub data State : Type 0 where
  item keyed declared slashed counted : Bool → State
  number_keyed number_declared clause literal negated finished : State
  term named after : Part → ℕ → State

-- A token that may stand next, and where the text stands then.
infix 40 ◌⇒◌
pub data Follow : Type 0 where
  ◌⇒◌ : (Token → Bool) → State → Follow

unfoldable pub after_term : Part → ℕ → List Follow
after_term head zero = (is implies ⇒ literal) ∷ (is dot ⇒ clause) ∷ []
after_term body zero = (is comma ⇒ literal) ∷ (is dot ⇒ clause) ∷ []
after_term p (suc depth) = (is comma ⇒ term p (suc depth)) ∷ (is closing ⇒ after p depth) ∷ []

unfoldable pub after_name : Part → ℕ → List Follow
after_name p depth = (is opening ⇒ term p (suc depth)) ∷ after_term p depth

abbrev pub item_follows : List Follow
item_follows = (is name ⇒ named head 0) ∷ (is ending ⇒ finished) ∷ []

unfoldable pub follows : State → List Follow
follows (item false) = (is_key ⇒ keyed false) ∷ item_follows
follows (item true) = (is_key ⇒ keyed true) ∷ (is_number_key ⇒ number_keyed) ∷ item_follows
follows (keyed numbers) = (is name ⇒ declared numbers) ∷ after_name head 0
follows (declared numbers) = (is slash ⇒ slashed numbers) ∷ []
follows (slashed numbers) = (is number ⇒ counted numbers) ∷ []
follows (counted numbers) = (is dot ⇒ item numbers) ∷ []
follows number_keyed = (is name ⇒ number_declared) ∷ after_name head 0
follows number_declared = (is_value ⇒ counted true) ∷ []
follows clause = item_follows
follows literal = (is tilde ⇒ negated) ∷ (is name ⇒ named body 0) ∷ []
follows negated = (is name ⇒ named body 0) ∷ []
follows finished = []
follows (term p depth) = (is variable ⇒ after p depth) ∷ (is name ⇒ named p depth) ∷ []
follows (named p depth) = after_name p depth
follows (after p depth) = after_term p depth

unfoldable pub next : List Follow → Token → Option State
next [] t = none
next ((fits ⇒ s) ∷ fs) t = elim (fits t) [ true ↦ some s | false ↦ next fs t ]

-- The first token that may not stand where it does, as the bytes left from it on.
unfoldable pub unread : State → List Token → Option ℕ
unread s [] = none
unread s (t ∷ ts) = elim (next (follows s) t) [ none ↦ some t.left | some s' ↦ unread s' ts ]
