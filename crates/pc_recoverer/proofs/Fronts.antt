-- Fronts of messages: what was made of them, and others behind that make them whole.
use Rattle.std.proofs.Common.{◌≡◌, ℕ, zero, suc, ◌+◌, ◌-◌, ◌<◌, List, [], ◌∷◌, ◌++◌, map, Some, None, refl, sym, ap, ◌∙◌, subst, arith}
use Rattle.std.proofs.lemmas.List.{append-nil, append_assoc}
use Rattle.pc_base.specs.declared.actor.ActorId.{ActorId}
use Rattle.pc_base.specs.declared.actor.ActorId.TheVariants as actors
use Rattle.pc_history.specs.declared.pair.Pair.{Pair}
use Rattle.pc_history.specs.Own.{pair}
use Rattle.pc_history.specs.Parts.{entry_of}
use Rattle.pc_proto.specs.declared.event.Event.{Event}
use Rattle.pc_proto.specs.declared.event.Event.TheVariants as events
use Rattle.pc_proto.specs.declared.meta.TxnMeta.{TxnMeta}
use Rattle.pc_proto.specs.declared.reply.Reply.{Reply}
use Rattle.pc_proto.specs.declared.reply.Reply.TheVariants as replies
use Rattle.pc_proto.specs.declared.request.Request.{Request}
use Rattle.pc_proto.specs.declared.request.Request.TheVariants as requests
use Rattle.pc_recoverer.proofs.Traffic.{exchanges_both}
use Rattle.pc_recoverer.specs.Broken.{AreFrontOf, AreFrontOfOne, AreFrontOfOneTo}
use Rattle.pc_recoverer.specs.declared.maker.RoundMaker.{RoundMaker}
use Rattle.pc_recoverer.specs.Exchanges.{AreExchangesIn, RoundMessage, requests_of}
use Rattle.pc_recoverer.specs.Round.{ArePartsFor, ArePartsOf, IsPartFor, IsPartOf, listed_push}

-- ---- entries that would make messages

-- Who makes them does not matter here.
abbrev somebody : ActorId
somebody = actors.Recoverer 0

-- A message of this range, request and reply.
abbrev pub saying : ℕ → Request → Reply → RoundMessage
saying range request reply = record { range = range; request = request; reply = reply }

-- The entry that would send the message.
abbrev send_for : RoundMessage → Pair Event
send_for x = pair (entry_of 0 somebody (events.Send 0 x.range x.request)) None

-- The one that would hear the reply to the message of this number.
abbrev hear_for : ℕ → RoundMessage → Pair Event
hear_for number x = pair (entry_of 0 somebody (events.Hear number 0)) (Some (entry_of 0 (actors.Range 0) (events.Eval somebody number x.reply)))

-- The entries that would make these messages.
abbrev pub entries_for : List RoundMessage → List (Pair Event)
entries_for [] = []
entries_for (x ∷ xs) = send_for x ∷ hear_for 0 x ∷ entries_for xs

pub are_entries : (xs : List RoundMessage) → AreExchangesIn xs (entries_for xs)
are_entries [] = refl
are_entries (x ∷ xs) = (send_for x, hear_for 0 x, entries_for xs, refl, record { number = 0; sends = refl; evaluated_at = 0; hears = refl; told = refl }, are_entries xs)

-- The entry, if this actor made it.
abbrev pub made_as : ActorId → Pair Event → Pair Event
made_as id p = pair (entry_of p.entry.step id p.entry.event) p.named

-- whoever made the later ones, the entries make the same messages
pub made_by_another : (id : ActorId) (xs : List RoundMessage) (p r : List (Pair Event)) → AreExchangesIn xs (p ++ r) → AreExchangesIn xs (p ++ map (made_as id) r)
made_by_another id [] [] r is = ap (map (made_as id)) is
made_by_another id [] (a ∷ p) r is = absurd cc
made_by_another id (x ∷ xs) [] r (send, hear, rest, whole, one, more) =
    (made_as id send, made_as id hear, map (made_as id) rest, ap (map (made_as id)) whole, record { number = one.number; sends = one.sends; evaluated_at = one.evaluated_at; hears = one.hears; told = one.told }, made_by_another id xs [] rest more)
made_by_another id (x ∷ xs) (a ∷ []) r (send, hear, rest, whole, one, more) =
    let first : a ≡ send = cc in
    let others : r ≡ hear ∷ rest = cc in (
      send,
      made_as id hear,
      map (made_as id) rest,
      ap (λ b. b ∷ map (made_as id) r) first ∙ ap (λ l. send ∷ map (made_as id) l) others,
      record { number = one.number; sends = one.sends; evaluated_at = one.evaluated_at; hears = one.hears; told = one.told },
      made_by_another id xs [] rest more,
    )
made_by_another id (x ∷ xs) (a ∷ b ∷ p) r (send, hear, rest, whole, one, more) =
    let first : a ≡ send = cc in
    let second : b ≡ hear = cc in
    let others : p ++ r ≡ rest = cc in (
      send,
      hear,
      p ++ map (made_as id) r,
      ap (λ s. s ∷ b ∷ (p ++ map (made_as id) r)) first ∙ ap (λ h. send ∷ h ∷ (p ++ map (made_as id) r)) second,
      one,
      made_by_another id xs p r (subst (λ l. AreExchangesIn xs l) (sym others) more),
    )

-- ---- fronts of one message

-- before it was sent
pub front_unsent : (request : Request) → AreFrontOfOne request []
front_unsent request reply = record { traffic = saying 0 request reply ∷ []; are = (0, refl); rest = entries_for (saying 0 request reply ∷ []); exchanged = are_entries (saying 0 request reply ∷ []) }

pub front_unsent_to : (range : ℕ) (request : Request) → AreFrontOfOneTo range request []
front_unsent_to range request reply = record { traffic = saying range request reply ∷ []; are = refl; rest = entries_for (saying range request reply ∷ []); exchanged = are_entries (saying range request reply ∷ []) }

-- and once it was
pub front_sent : (number range : ℕ) (request : Request) (p : Pair Event) → p.entry.event ≡ events.Send number range request → AreFrontOfOneTo range request (p ∷ [])
front_sent number range request p is reply = record {
  traffic = saying range request reply ∷ [];
  are = refl;
  rest = hear_for number (saying range request reply) ∷ [];
  exchanged = (p, hear_for number (saying range request reply), [], refl, record { number = number; sends = is; evaluated_at = 0; hears = refl; told = refl }, refl);
}

-- ---- fronts of several

-- what is a front of such is one of others
pub front_weaker : (A B : List RoundMessage → Type 0) (p : List (Pair Event)) → ((xs : List RoundMessage) → A xs → B xs) → AreFrontOf A p → AreFrontOf B p
front_weaker A B p on f = record { traffic = f.traffic; are = on f.traffic f.are; rest = f.rest; exchanged = f.exchanged }

pub front_of_one : (range : ℕ) (request : Request) (p : List (Pair Event)) → AreFrontOfOneTo range request p → AreFrontOfOne request p
front_of_one range request p f reply = front_weaker _ _ p (λ xs is. (range, is)) (f reply)

-- messages that were made, and a front of others behind them
pub front_behind : (More Are : List RoundMessage → Type 0) (xs : List RoundMessage) (p q : List (Pair Event)) → AreExchangesIn xs p → ((ys : List RoundMessage) → More ys → Are (xs ++ ys)) → AreFrontOf More q → AreFrontOf Are (p ++ q)
front_behind More Are xs p q made on f = record {
  traffic = xs ++ f.traffic;
  are = on f.traffic f.are;
  rest = f.rest;
  exchanged = subst (λ l. AreExchangesIn (xs ++ f.traffic) l) (sym (append_assoc p q f.rest)) (exchanges_both xs f.traffic p (q ++ f.rest) made f.exchanged);
}

-- a front of messages behind which others would follow
pub front_before : (First Are : List RoundMessage → Type 0) (p : List (Pair Event)) → ((xs : List RoundMessage) → First xs → (ys : List RoundMessage) × Are (xs ++ ys)) → AreFrontOf First p → AreFrontOf Are p
front_before First Are p on f =
    let more = on f.traffic f.are in
    record {
      traffic = f.traffic ++ more.0;
      are = more.1;
      rest = f.rest ++ entries_for more.0;
      exchanged =
          subst (λ l. AreExchangesIn (f.traffic ++ more.0) l) (append_assoc p f.rest (entries_for more.0))
          (exchanges_both f.traffic more.0 (p ++ f.rest) (entries_for more.0) f.exchanged (are_entries more.0));
    }

-- ---- messages that would settle the rest

-- Messages that say these, however they are answered.
abbrev pub saying_each : List Request → List RoundMessage
saying_each [] = []
saying_each (request ∷ requests) = saying 0 request replies.Removed ∷ saying_each requests

pub said_each : (all : List Request) → requests_of (saying_each all) ≡ all
said_each [] = refl
said_each (request ∷ all) = ap (λ l. request ∷ l) (said_each all)

-- ---- the parts of transactions

-- A push of each of these, refused without a view.
abbrev pub pushes_of : RoundMaker → List TxnMeta → List RoundMessage
pushes_of maker [] = []
pushes_of maker (meta ∷ metas) = saying 0 (listed_push maker meta) replies.Removed ∷ pushes_of maker metas

pub would_push : (maker : RoundMaker) (metas : List TxnMeta) → ArePartsFor maker metas (pushes_of maker metas)
would_push maker [] = refl
would_push maker (meta ∷ metas) =
    let push = saying 0 (listed_push maker meta) replies.Removed in
    (push ∷ [], pushes_of maker metas, refl, record { push = push; after = []; whole = refl; asked = refl; follows = refl }, would_push maker metas)

-- those of some, and then of others
pub parts_for_both : (maker : RoundMaker) (ms ns : List TxnMeta) (xs ys : List RoundMessage) → ArePartsFor maker ms xs → ArePartsFor maker ns ys → ArePartsFor maker (ms ++ ns) (xs ++ ys)
parts_for_both maker [] ns xs ys none others = subst (λ l. ArePartsFor maker ns (l ++ ys)) (sym none) others
parts_for_both maker (m ∷ ms) ns xs ys (first, rest, whole, one, more) others =
    (first, rest ++ ys, ap (λ l. l ++ ys) whole ∙ append_assoc first rest ys, one, parts_for_both maker ms ns rest ys more others)

-- that of one
pub part_for_one : (maker : RoundMaker) (meta : TxnMeta) (xs : List RoundMessage) → IsPartFor maker meta xs → ArePartsFor maker (meta ∷ []) xs
part_for_one maker meta xs part = (xs, [], sym (append-nil xs), part, refl)

-- those of the first, that of the next, and what would be left
pub parts_for_front : (maker : RoundMaker) (before behind : List TxnMeta) (meta : TxnMeta) (xs ys : List RoundMessage) → ArePartsFor maker before xs → IsPartFor maker meta ys
    → (zs : List RoundMessage) × ArePartsFor maker (before ++ (meta ∷ behind)) ((xs ++ ys) ++ zs)
parts_for_front maker before behind meta xs ys done part = (
  pushes_of maker behind,
  subst (λ l. ArePartsFor maker (before ++ (meta ∷ behind)) l) (sym (append_assoc xs ys (pushes_of maker behind)))
      (parts_for_both maker before (meta ∷ behind) xs (ys ++ pushes_of maker behind) done
      (parts_for_both maker (meta ∷ []) behind ys (pushes_of maker behind) (part_for_one maker meta ys part) (would_push maker behind))),
)

-- ---- the parts of ranges

-- A listing of each of these ranges, which lists nothing.
abbrev pub listings_of : ℕ → ℕ → List RoundMessage
listings_of range zero = []
listings_of range (suc count) = saying range requests.Records (replies.Listed []) ∷ listings_of (range + 1) count

pub would_list : (maker : RoundMaker) (range count : ℕ) → ArePartsOf maker range count (listings_of range count)
would_list maker range zero = refl
would_list maker range (suc count) =
    let listing = saying range requests.Records (replies.Listed []) in
    (listing ∷ [], listings_of (range + 1) count, refl, record { listing = listing; after = []; whole = refl; goes = refl; asked = refl; metas = []; lists = refl; each = refl }, would_list maker (range + 1) count)

-- those of so many ranges, and then of so many others
pub parts_of_both : (maker : RoundMaker) (range n m : ℕ) (xs ys : List RoundMessage) → ArePartsOf maker range n xs → ArePartsOf maker (range + n) m ys → ArePartsOf maker range (n + m) (xs ++ ys)
parts_of_both maker range zero m xs ys none others =
    let here : range + zero ≡ range = omega arith in
    let all : m ≡ zero + m = omega arith in
    subst (λ k. ArePartsOf maker range k (xs ++ ys)) all (subst (λ l. ArePartsOf maker range m (l ++ ys)) (sym none) (subst (λ r. ArePartsOf maker r m ys) here others))
parts_of_both maker range (suc n) m xs ys (first, rest, whole, one, more) others =
    let there : range + suc n ≡ range + 1 + n = omega arith in
    let all : suc (n + m) ≡ suc n + m = omega arith in
    subst (λ k. ArePartsOf maker range k (xs ++ ys)) all
    (first, rest ++ ys, ap (λ l. l ++ ys) whole ∙ append_assoc first rest ys, one, parts_of_both maker (range + 1) n m rest ys more (subst (λ r. ArePartsOf maker r m ys) there others))

-- that of one
pub part_of_one : (maker : RoundMaker) (range : ℕ) (xs : List RoundMessage) → IsPartOf maker range xs → ArePartsOf maker range (suc zero) xs
part_of_one maker range xs part = (xs, [], sym (append-nil xs), part, refl)

-- those of the first ranges, and that of the next
pub parts_of_more : (maker : RoundMaker) (n : ℕ) (xs ys : List RoundMessage) → ArePartsOf maker 0 n xs → IsPartOf maker n ys → ArePartsOf maker 0 (n + 1) (xs ++ ys)
parts_of_more maker n xs ys done part =
    let here : n ≡ 0 + n = omega arith in
    let all : n + suc zero ≡ n + 1 = omega arith in
    subst (λ k. ArePartsOf maker 0 k (xs ++ ys)) all (parts_of_both maker 0 n (suc zero) xs ys done (subst (λ r. ArePartsOf maker r (suc zero) ys) here (part_of_one maker n ys part)))

-- and what would be left
pub parts_of_front : (maker : RoundMaker) (n count : ℕ) (xs ys : List RoundMessage) → n < count → ArePartsOf maker 0 n xs → IsPartOf maker n ys → (zs : List RoundMessage) × ArePartsOf maker 0 count ((xs ++ ys) ++ zs)
parts_of_front maker n count xs ys below done part =
    let left = count - (n + 1) in
    let here : n + 1 ≡ 0 + (n + 1) = omega arith in
    let all : n + 1 + left ≡ count = omega arith in (
      listings_of (n + 1) left,
      subst (λ k. ArePartsOf maker 0 k ((xs ++ ys) ++ listings_of (n + 1) left)) all
          (parts_of_both maker 0 (n + 1) left (xs ++ ys) (listings_of (n + 1) left) (parts_of_more maker n xs ys done part) (subst (λ r. ArePartsOf maker r left (listings_of (n + 1) left)) here (would_list maker (n + 1) left))),
    )
