-- A message that goes out just as it was does so still, while what is sent and heard is of other requests.
use Rattle.std.proofs.Common.{◌≡◌, true, false, List, [], ◌∷◌, ◌++◌, ap, ◌∙◌, All, append_assoc, IsTrue}
use Rattle.std.proofs.lemmas.List.Elements.{All-append, All-cons, All-nil, All-weaker}
use Rattle.pc_call.proofs.Eighths.{same_sym}
use Rattle.pc_call.proofs.Unsent.{same_beside, same_put_only}
use Rattle.pc_call.specs.Serving.{GoesJustSo}
use Rattle.pc_follows.specs.PutsAgain.{WentThroughRound}
use Rattle.pc_proto.specs.declared.request.Request.{Request}
use Rattle.pc_proto.specs.Requests.{is_put}
use Rattle.pc_wave.proofs.Standings.{followed-more}
use Rattle.pc_wave.specs.declared.message.Message.{Message}
use Rattle.pc_wave.specs.Standing.{goes_beside}
use Rattle.pc_world.specs.Known.{Known}
use Rattle.pc_world.specs.Known.Traffic.{Heard}
use Rattle.pc_world.specs.SameRequest.{IsSameRequest}

-- nothing more was heard
went_same : (k k2 : Known) → k2.heard_now ≡ k.heard_now → (request : Request) → WentThroughRound k request → WentThroughRound k2 request
went_same k k2 same request w = record {
  met = record {
    before = w.met.before;
    conflict = w.met.conflict;
    later = w.met.later;
    whole = same ∙ w.met.whole;
    same = w.met.same;
    last = w.met.last;
    holder = w.met.holder;
    ts = w.met.ts;
    key = w.met.key;
    met = w.met.met;
    followed = w.met.followed;
  };
  just_so = w.just_so;
}

-- what was heard more is of other requests
went_more : (k k2 : Known) (more : List Heard) → k2.heard_now ≡ k.heard_now ++ more → (request : Request) → All (λ h. IsSameRequest request h.request → ⊥) more → WentThroughRound k request → WentThroughRound k2 request
went_more k k2 more is request others w = record {
  met = record {
    before = w.met.before;
    conflict = w.met.conflict;
    later = w.met.later ++ more;
    whole = is ∙ ap (λ hs. hs ++ more) w.met.whole ∙ append_assoc w.met.before (w.met.conflict ∷ w.met.later) more;
    same = w.met.same;
    last = All-append (λ h. IsSameRequest request h.request → ⊥) w.met.later more w.met.last others;
    holder = w.met.holder;
    ts = w.met.ts;
    key = w.met.key;
    met = w.met.met;
    followed = followed-more w.met.holder.id w.met.key w.met.later more w.met.followed;
  };
  just_so = w.just_so;
}

pub just_so_sent : (k k2 : Known) → k2.heard_now ≡ k.heard_now → (m : Message) → GoesJustSo k m → GoesJustSo k2 m
just_so_sent k k2 same m goes = λ to_send none. went_same k k2 same m.request (goes to_send none)

pub just_so_heard : (k k2 : Known) (h : Heard) → k2.heard_now ≡ k.heard_now ++ h ∷ [] → (m : Message) → (IsSameRequest m.request h.request → ⊥) → GoesJustSo k m → GoesJustSo k2 m
just_so_heard k k2 h is m other goes = λ to_send none.
    went_more k k2 (h ∷ []) is m.request (All-cons (λ h. IsSameRequest m.request h.request → ⊥) h [] other (All-nil (λ h. IsSameRequest m.request h.request → ⊥))) (goes to_send none)

-- a reply to no put is to another request than a put
pub just_so_plain : (k k2 : Known) (h : Heard) → k2.heard_now ≡ k.heard_now ++ h ∷ [] → (m : Message) → is_put m.request ≡ true → is_put h.request ≡ false → GoesJustSo k m → GoesJustSo k2 m
just_so_plain k k2 h is m put plain = just_so_heard k k2 h is m (λ same. same_put_only h.request m.request plain put (same_sym m.request h.request same))

-- so is what goes beside
pub just_so_beside : (k k2 : Known) (more : List Heard) → k2.heard_now ≡ k.heard_now ++ more → All (λ h. IsTrue (goes_beside h.request)) more → (m : Message) → goes_beside m.request ≡ false → GoesJustSo k m → GoesJustSo k2 m
just_so_beside k k2 more is beside m own goes = λ to_send none.
    went_more k k2 more is m.request (All-weaker (λ h. IsTrue (goes_beside h.request)) (λ h. IsSameRequest m.request h.request → ⊥) (λ h of. same_beside m.request h.request own of) more beside) (goes to_send none)
