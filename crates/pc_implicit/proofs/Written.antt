-- What was replied after one more entry was replied before it, or is replied by it.
use Rattle.std.proofs.Common.{Bool, Contains, List, None, Option, [], ap, false, if◌then◌else◌, inl, inr, refl, subst, sym, true, ℕ, ◌&&◌, ◌++◌, ◌∙◌, ◌∷◌, ◌≡◌, ◌⊎◌}
use Rattle.std.proofs.lemmas.Bool.{and_from, eq-eqb}
use Rattle.std.proofs.lemmas.List.Elements.{Contains-append_left, Contains-push_cases}
use Rattle.pc_base.specs.declared.actor.ActorId.{ActorId}
use Rattle.pc_base.specs.declared.entry.Entry.{Entry}
use Rattle.pc_base.specs.declared.transaction.TxnId.{TxnId}
use Rattle.pc_base.specs.declared.transaction.Who.{Who}
use Rattle.pc_history.proofs.Ids.{same_id-equal}
use Rattle.pc_history.specs.History.{MayFollow}
use Rattle.pc_history.specs.Own.{same_id}
use Rattle.pc_implicit.proofs.Evals.{NamedMessage, of_entry}
use Rattle.pc_implicit.proofs.Firsts.{none_front}
use Rattle.pc_implicit.proofs.Metas.{no_intent}
use Rattle.pc_implicit.proofs.Shown.{shown}
use Rattle.pc_implicit.specs.Replied.{QueryFound, QueryMissed, WasProven, WasReplied, WasWritten}
use Rattle.pc_proto.specs.declared.event.Event.{Event}
use Rattle.pc_proto.specs.declared.event.Event.TheVariants as events
use Rattle.pc_proto.specs.declared.meta.TxnMeta.{TxnMeta}
use Rattle.pc_proto.specs.declared.reply.Reply.{Reply}
use Rattle.pc_proto.specs.declared.reply.Reply.TheVariants as replies
use Rattle.pc_proto.specs.declared.request.Request.{Request}
use Rattle.pc_proto.specs.declared.request.Request.TheVariants as requests
use Rattle.pc_world.proofs.Knowing.{run_push}
use Rattle.pc_world.proofs.Prefixes.{run_front}
use Rattle.pc_world.proofs.World.{names_one}
use Rattle.pc_world.specs.After.{state_at}
use Rattle.pc_world.specs.Committed.{anchor_in, key_sent}
use Rattle.pc_world.specs.Evaluation.{reply as reply_of}
use Rattle.pc_world.specs.Evaluation.Query.{is_found, write_stands}
use Rattle.pc_world.specs.Local.{Head}
use Rattle.pc_world.specs.Named.{is_send_of}
use Rattle.pc_world.specs.Run.{IsRun, protocol}

-- of an actor's messages no two have one number
pub one_send : (head : Head) (history : List (Entry Event)) → IsRun head history → (a b : Entry Event) → Contains history a → Contains history b → (actor : ActorId) (number : ℕ) → a.actor ≡ actor → b.actor ≡ actor
    → (range to : ℕ) (one other : Request) → a.event ≡ events.Send number range one → b.event ≡ events.Send number to other → a ≡ b
one_send head history run a b inside also actor number own its range to one other sends too =
    names_one head history (events.Eval actor number replies.Resolved) run a b inside also (named a range one own sends) (named b to other its too)
  where
    named : (x : Entry Event) (range : ℕ) (request : Request) → x.actor ≡ actor → x.event ≡ events.Send number range request → (same_id actor x.actor && is_send_of number x.event) ≡ true
    named x range request own sends =
        and_from (same_id actor x.actor) (is_send_of number x.event) (same_id-equal actor x.actor (sym own)) (ap (is_send_of number) sends ∙ eq-eqb number number refl)

-- a query that found its write found it standing
pub found_is : (b : Bool) → (if b then replies.Found else replies.Missing) ≡ replies.Found → b ≡ true
found_is true told = refl
found_is false told = absurd cc

-- The entry evaluates a message with this request, and answers so.
pub record IsRepliedNow (head : Head) (history : List (Entry Event)) (e : Entry Event) (request : Request) (reply : Reply) : Type 0 where
  pub actor : ActorId
  pub number : ℕ
  pub is : e.event ≡ events.Eval actor number reply
  pub ev : NamedMessage head history e.actor actor number reply
  pub asks : ev.request ≡ request

-- The entry evaluates a put of this key and sequence of the transaction in this epoch, and answers that it is written at this timestamp.
pub record IsWrittenNow (head : Head) (history : List (Entry Event)) (e : Entry Event) (id : TxnId) (epoch : ℕ) (key : List ℕ) (seq ts : ℕ) : Type 0 where
  pub actor : ActorId
  pub number : ℕ
  pub is : e.event ≡ events.Eval actor number (replies.Written ts)
  pub ev : NamedMessage head history e.actor actor number (replies.Written ts)
  pub meta : TxnMeta
  pub asked : ℕ
  pub value : Option (List ℕ)
  pub asks : ev.request ≡ requests.Put meta seq asked key value
  pub whose : meta.id ≡ id
  pub epoch_is : meta.epoch ≡ epoch

-- The entry evaluates a query of this write at this timestamp, and finds it.
pub record IsFoundNow (head : Head) (history : List (Entry Event)) (e : Entry Event) (id : TxnId) (epoch : ℕ) (key : List ℕ) (seq ts : ℕ) : Type 0 where
  pub by : Who
  pub replied : IsRepliedNow head history e (requests.Query id epoch seq ts key by) replies.Found

-- what was replied was so in every longer history
pub replied_more : (history : List (Entry Event)) (e : Entry Event) (request : Request) (reply : Reply) → WasReplied history request reply → WasReplied (history ++ e ∷ []) request reply
replied_more history e request reply r = record {
  send = r.send;
  listed = Contains-append_left history (e ∷ []) r.send r.listed;
  number = r.number;
  range = r.range;
  sends = r.sends;
  eval = r.eval;
  evaluated = Contains-append_left history (e ∷ []) r.eval r.evaluated;
  told = r.told;
}

pub written_more : (history : List (Entry Event)) (e : Entry Event) (id : TxnId) (epoch : ℕ) (key : List ℕ) (seq p : ℕ) → WasWritten history id epoch key seq p → WasWritten (history ++ e ∷ []) id epoch key seq p
written_more history e id epoch key seq p w = record {
  meta = w.meta;
  asked = w.asked;
  value = w.value;
  whose = w.whose;
  epoch_is = w.epoch_is;
  replied = replied_more history e (requests.Put w.meta seq w.asked key w.value) (replies.Written p) w.replied;
}

pub found_more : (history : List (Entry Event)) (e : Entry Event) (id : TxnId) (epoch : ℕ) (key : List ℕ) (seq p : ℕ) → QueryFound history id epoch key seq p → QueryFound (history ++ e ∷ []) id epoch key seq p
found_more history e id epoch key seq p f = record { by = f.by; replied = replied_more history e (requests.Query id epoch seq p key f.by) replies.Found f.replied }

pub missed_more : (history : List (Entry Event)) (e : Entry Event) (id : TxnId) (epoch : ℕ) (key : List ℕ) (seq p : ℕ) → QueryMissed history id epoch key seq p → QueryMissed (history ++ e ∷ []) id epoch key seq p
missed_more history e id epoch key seq p f = record { by = f.by; replied = replied_more history e (requests.Query id epoch seq p key f.by) replies.Missing f.replied }

pub proven_more : (history : List (Entry Event)) (e : Entry Event) (id : TxnId) (epoch : ℕ) (key : List ℕ) (seq p : ℕ) → WasProven history id epoch key seq p → WasProven (history ++ e ∷ []) id epoch key seq p
proven_more history e id epoch key seq p proven =
    elim proven [
      | inl written ↦ inl (written_more history e id epoch key seq p written)
      | inr found ↦ inr (found_more history e id epoch key seq p found)
    ]

module _ (head : Head) (history : List (Entry Event)) (run : IsRun head history) (e : Entry Event) (may : MayFollow (protocol head) history e) where
  -- what was replied after one more entry was so before it, or is replied by it
  pub replied_cases : (request : Request) (reply : Reply) → WasReplied (history ++ e ∷ []) request reply → WasReplied history request reply ⊎ IsRepliedNow head history e request reply
  replied_cases request reply w =
      let whole = run_push head history e run may in
      elim (Contains-push_cases history e w.eval w.evaluated) [
        | inl before ↦
            let so = shown head history run w.eval before w.send.actor w.number reply w.told in
            let a = so.1 in
            let same : a.send ≡ w.send =
            one_send head (history ++ e ∷ []) whole a.send w.send (Contains-append_left history (e ∷ []) a.send a.listed) w.listed w.send.actor w.number a.whose refl a.range w.range so.0 request a.sends w.sends in
            inl (record {
              send = w.send;
              listed = subst (Contains history) same a.listed;
              number = w.number;
              range = w.range;
              sends = w.sends;
              eval = w.eval;
              evaluated = before;
              told = w.told;
            })
        | inr now ↦
            let is : e.event ≡ events.Eval w.send.actor w.number reply = ap (λ (x : Entry Event). x.event) now ∙ w.told in
            let ev = of_entry head history e w.send.actor w.number reply run may is in
            let same : ev.send ≡ w.send =
            one_send head (history ++ e ∷ []) whole ev.send w.send (Contains-append_left history (e ∷ []) ev.send ev.listed) w.listed w.send.actor w.number ev.whose refl ev.range w.range ev.request request ev.sends w.sends in
            let both : events.Send w.number ev.range ev.request ≡ events.Send w.number w.range request = sym ev.sends ∙ ap (λ (x : Entry Event). x.event) same ∙ w.sends in
            let asks : ev.request ≡ request = cc both in
            inr (record { actor = w.send.actor; number = w.number; is = is; ev = ev; asks = asks })
      ]

  pub written_cases : (id : TxnId) (epoch : ℕ) (key : List ℕ) (seq ts : ℕ) → WasWritten (history ++ e ∷ []) id epoch key seq ts → WasWritten history id epoch key seq ts ⊎ IsWrittenNow head history e id epoch key seq ts
  written_cases id epoch key seq ts w =
      elim (replied_cases (requests.Put w.meta seq w.asked key w.value) (replies.Written ts) w.replied) [
        | inl before ↦ inl (record { meta = w.meta; asked = w.asked; value = w.value; whose = w.whose; epoch_is = w.epoch_is; replied = before })
        | inr now ↦
            inr (record {
              actor = now.actor;
              number = now.number;
              is = now.is;
              ev = now.ev;
              meta = w.meta;
              asked = w.asked;
              value = w.value;
              asks = now.asks;
              whose = w.whose;
              epoch_is = w.epoch_is;
            })
      ]

  -- so of what was found
  pub found_cases : (id : TxnId) (epoch : ℕ) (key : List ℕ) (seq ts : ℕ) → QueryFound (history ++ e ∷ []) id epoch key seq ts → QueryFound history id epoch key seq ts ⊎ IsFoundNow head history e id epoch key seq ts
  found_cases id epoch key seq ts w =
      elim (replied_cases (requests.Query id epoch seq ts key w.by) replies.Found w.replied) [
        | inl old ↦ inl (record { by = w.by; replied = old })
        | inr now ↦ inr (record { by = w.by; replied = now })
      ]

  -- so of what was proven
  pub proven_cases : (id : TxnId) (epoch : ℕ) (key : List ℕ) (seq ts : ℕ) → WasProven (history ++ e ∷ []) id epoch key seq ts
      → WasProven history id epoch key seq ts ⊎ (IsWrittenNow head history e id epoch key seq ts ⊎ IsFoundNow head history e id epoch key seq ts)
  proven_cases id epoch key seq ts (inl w) = elim (written_cases id epoch key seq ts w) [ inl old ↦ inl (inl old) | inr now ↦ inr (inl now) ]
  proven_cases id epoch key seq ts (inr w) = elim (found_cases id epoch key seq ts w) [ inl old ↦ inl (inr old) | inr now ↦ inr (inr now) ]

-- The range answered this as it was after some beginning of the history.
pub record WasRepliedAt (head : Head) (history : List (Entry Event)) (range : ℕ) (request : Request) (reply : Reply) : Type 0 where
  pub front : List (Entry Event)
  pub back : List (Entry Event)
  pub whole : front ++ back ≡ history
  pub answers : reply ≡ reply_of request (state_at head range front)

-- the state in which a message was answered
pub replied_at : (head : Head) (history : List (Entry Event)) → IsRun head history → (request : Request) (reply : Reply) (w : WasReplied history request reply) → WasRepliedAt head history w.range request reply
replied_at head history run request reply w =
    let so = shown head history run w.eval w.evaluated w.send.actor w.number reply w.told in
    let a = so.1 in
    let same : a.send ≡ w.send = one_send head history run a.send w.send a.listed w.listed w.send.actor w.number a.whose refl a.range w.range so.0 request a.sends w.sends in
    let both : events.Send w.number a.range so.0 ≡ events.Send w.number w.range request = sym a.sends ∙ ap (λ (x : Entry Event). x.event) same ∙ w.sends in
    let asks : so.0 ≡ request = cc both in
    let range : a.range ≡ w.range = cc both in
    record { front = a.front; back = a.back; whole = a.whole; answers = a.answers ∙ ap (λ r. reply_of r (state_at head a.range a.front)) asks ∙ ap (λ r. reply_of request (state_at head r a.front)) range }

-- no query finds a write of a transaction that has no anchor
pub none_found : (head : Head) (history : List (Entry Event)) → IsRun head history → (id : TxnId) (epoch : ℕ) (key : List ℕ) (seq ts : ℕ) → anchor_in id history ≡ None → QueryFound history id epoch key seq ts → ⊥
none_found head history run id epoch key seq ts none w =
    let a = replied_at head history run (requests.Query id epoch seq ts key w.by) replies.Found w.replied in
    let before : IsRun head a.front = run_front head a.front a.back (subst (IsRun head) (sym a.whole) run) in
    let early : anchor_in id a.front ≡ None = none_front (λ x. key_sent id x.event) a.front a.back (ap (anchor_in id) a.whole ∙ none) in
    let own = no_intent head a.front before w.replied.range id key early in
    let nothing : write_stands id epoch seq ts key (state_at head w.replied.range a.front) ≡ false = ap (is_found epoch seq ts) own in
    let both : replies.Found ≡ replies.Missing = a.answers ∙ ap (λ b. if b then replies.Found else replies.Missing) nothing in
    absurd cc
