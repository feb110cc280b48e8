-- What a text is read as: for each notion the one value that it spells, or none where it spells none. Own profile.
use Rattle.std.specs.Prelude.{ℕ, ◌+◌, ◌*◌, ◌^◌, ◌==◌, nat_lt, nat_le, not, ◌&&◌, Bool, false, if◌then◌else◌, List, [], ◌∷◌, length, Option, None, Some, option_map, codes, bytes_eq}
use Rattle.std.specs.List.{list_all}
use Rattle.std.specs.Option.{option_map_or}
use Rattle.std.specs.Str.Parse.{digits_value}
use Rattle.pc_base.specs.declared.actor.ActorId.{ActorId}
use Rattle.pc_base.specs.declared.actor.ActorId.TheVariants as actors
use Rattle.pc_base.specs.declared.limits.TheConstants.{KEY_BYTES, VALUE_BYTES}
use Rattle.pc_base.specs.declared.span.Span.{Span}
use Rattle.pc_base.specs.declared.span.Span.TheVariants as spans
use Rattle.pc_base.specs.declared.transaction.Priority.{Priority}
use Rattle.pc_base.specs.declared.transaction.Priority.TheVariants as priorities
use Rattle.pc_base.specs.declared.transaction.TxnId.{TxnId}
use Rattle.pc_base.specs.declared.transaction.Who.{Who}
use Rattle.pc_base.specs.declared.transaction.Who.TheVariants as whos
use Rattle.pc_base.specs.Key.{is_key_byte}
use Rattle.pc_base.specs.Value.{is_value_byte}
use Rattle.pc_proto.specs.declared.meta.TxnMeta.{TxnMeta}
use Rattle.pc_proto.specs.declared.reply.Origin.{Origin}
use Rattle.pc_proto.specs.declared.reply.Origin.TheVariants as origins
use Rattle.pc_proto.specs.declared.why.Why.{Why}
use Rattle.pc_proto.specs.declared.why.Why.TheVariants as whys
use Rattle.pc_spelling.specs.Bytes.{is_digit}
use Rattle.pc_spelling.specs.Cutting.{cut, both, ◌:&◌, made, or_dash_at, list_at, word_of, or_word, no_word, alone, behind}

-- Digits, at least one, and no zero before others.
abbrev pub is_numeral : List ℕ → Bool
is_numeral [] = false
is_numeral (digit ∷ []) = is_digit digit
is_numeral (first ∷ second ∷ rest) = not (first == 48) && list_all is_digit (first ∷ second ∷ rest)

-- A number below the limit.
unfoldable pub number_at : ℕ → List ℕ → Option ℕ
number_at limit bs =
    if is_numeral bs && nat_lt (digits_value 10 bs) limit then Some (digits_value 10 bs) else None

abbrev pub number32_at : List ℕ → Option ℕ
number32_at bs = number_at (2 ^ 32) bs

abbrev pub number64_at : List ℕ → Option ℕ
number64_at bs = number_at (2 ^ 64) bs

-- A wall part and a logical part, a dot between them.
unfoldable pub ts_at : List ℕ → Option ℕ
ts_at bs = made (λ p. p.0 * 2 ^ 32 + p.1) (both 46 number64_at number32_at) bs

unfoldable pub id_at : List ℕ → Option TxnId
id_at bs = made (λ p. record { session = p.0; number = p.1 }) (both 46 number32_at number32_at) bs

-- A number behind the letter of its kind of actor.
unfoldable pub actor_at : List ℕ → Option ActorId
actor_at [] = None
actor_at (letter ∷ digits) =
    if letter == 114 then option_map actors.Range (number32_at digits)
    else if letter == 115 then option_map actors.Session (number32_at digits)
    else if letter == 118 then option_map actors.Recoverer (number32_at digits)
    else None

-- A range alone.
unfoldable pub range_at : List ℕ → Option ℕ
range_at [] = None
range_at (letter ∷ digits) = if letter == 114 then number32_at digits else None

-- A recoverer behind its letter, or else a transaction.
unfoldable pub who_at : List ℕ → Option Who
who_at [] = None
who_at (letter ∷ rest) =
    if letter == 118 then option_map whos.Recoverer (number32_at rest) else option_map whos.Txn (id_at (letter ∷ rest))

unfoldable pub priority_at : List ℕ → Option Priority
priority_at bs =
    if bytes_eq bs (codes "low") then Some priorities.Low
    else if bytes_eq bs (codes "normal") then Some priorities.Normal
    else if bytes_eq bs (codes "high") then Some priorities.High
    else None

unfoldable pub key_at : List ℕ → Option (List ℕ)
key_at bs =
    if (nat_le 1 (length bs) && nat_le (length bs) KEY_BYTES) && list_all is_key_byte bs then Some bs else None

-- A value's bytes, without the equals sign.
unfoldable pub value_bytes_at : List ℕ → Option (List ℕ)
value_bytes_at bs = if nat_le (length bs) VALUE_BYTES && list_all is_value_byte bs then Some bs else None

unfoldable pub value_at : List ℕ → Option (List ℕ)
value_at [] = None
value_at (sign ∷ bs) = if sign == 61 then value_bytes_at bs else None

abbrev pub maybe_value_at : List ℕ → Option (Option (List ℕ))
maybe_value_at bs = or_dash_at value_at bs

-- Two ends where there is a comma, else one key.
unfoldable pub span_at : List ℕ → Option Span
span_at bs =
    option_map_or (λ ends. made (λ p. spans.Between p.0 p.1) (both 44 (or_dash_at key_at) (or_dash_at key_at)) bs) (cut 44 bs) (option_map spans.One (key_at bs))

unfoldable pub why_at : List ℕ → Option Why
why_at bs =
    or_word (codes "pushed") (behind whys.Pushed who_at)
    (or_word (codes "missing") (behind (λ p. whys.Missing p.0 p.1) (key_at :& who_at))
    (or_word (codes "refresh") (behind (λ p. whys.Refresh p.0 p.1) (key_at :& ts_at))
    (or_word (codes "client") (alone whys.Client)
    no_word))) (word_of 58 bs)

unfoldable pub meta_at : List ℕ → Option TxnMeta
meta_at bs =
    made (λ p. record { id = p.0; epoch = p.1.0; priority = p.1.1.0; born = p.1.1.1.0; anchor = p.1.1.1.1 })
    (id_at :& number32_at :& priority_at :& number64_at :& key_at) bs

-- A transaction's name, its epoch and a sequence.
unfoldable pub point_at : List ℕ → Option (TxnId × (ℕ × ℕ))
point_at bs = (id_at :& number32_at :& number32_at) bs

unfoldable pub write_at : List ℕ → Option (List ℕ × ℕ)
write_at bs = (key_at :& number32_at) bs

unfoldable pub writes_at : List ℕ → Option (List (List ℕ × ℕ))
writes_at bs = list_at write_at bs

unfoldable pub keys_at : List ℕ → Option (List (List ℕ))
keys_at bs = list_at key_at bs

unfoldable pub origin_at : List ℕ → Option Origin
origin_at bs =
    if bytes_eq bs (codes "-") then Some origins.Nothing
    else if bytes_eq bs (codes "own") then Some origins.Own
    else option_map origins.At (ts_at bs)

-- A row of a reply: cut at its first at sign, and the rest at its first equals sign.
unfoldable pub row_at : List ℕ → Option (List ℕ × Origin × List ℕ)
row_at bs = made (λ p. (p.0, p.1.0, p.1.1)) (both 64 key_at (both 61 origin_at value_bytes_at)) bs

-- A row that a client is told, cut at its first equals sign.
unfoldable pub told_row_at : List ℕ → Option (List ℕ × Origin × List ℕ)
told_row_at bs = made (λ p. (p.0, origins.Nothing, p.1)) (both 61 key_at value_bytes_at) bs
