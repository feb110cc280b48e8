-- A job that begins by a commit may begin so still, whatever its session asks, sends and hears for another transaction.
use Rattle.std.proofs.Common.{◌≡◌, ℕ, false, Option, None, Some, Contains, [], ◌∷◌, map, refl, sym, ap, subst, ◌∙◌, arith}
use Rattle.std.proofs.lemmas.List.{append-nil}
use Rattle.std.proofs.lemmas.List.Elements.{All-cons, All-nil}
use Rattle.pc_base.specs.declared.transaction.TxnId.{TxnId}
use Rattle.pc_call.specs.Finished.{MayBeCommittedFirst, MayBeSettledAfter}
use Rattle.pc_coord.specs.declared.job.Job.{Job}
use Rattle.pc_coord.specs.Knows.{MayFinishJob, left_for}
use Rattle.pc_coord.specs.Meeting.{known_met}
use Rattle.pc_coord.specs.OwnMessages.{LeavesAlone}
use Rattle.pc_exchange.specs.Jobs.{IsFinishable}
use Rattle.pc_lists.proofs.Lists.{contains_map}
use Rattle.pc_proto.specs.declared.answer.Answer.{Answer}
use Rattle.pc_proto.specs.declared.call.Call.{Call}
use Rattle.pc_proto.specs.declared.meta.TxnMeta.{TxnMeta}
use Rattle.pc_proto.specs.declared.request.Request.{Request}
use Rattle.pc_proto.specs.Requests.{is_about}
use Rattle.pc_session.proofs.FirstKept.{first_kept, heard_alone, sent_alone, told_keeps}
use Rattle.pc_session.proofs.Knowing.{with_asked, with_heard, with_sent, with_told}
use Rattle.pc_world.specs.Known.{Known}
use Rattle.pc_world.specs.Known.Traffic.{Heard, Sent}
use Rattle.pc_world.specs.Known.Transactions.{Txn, txn_heard, txn_sent}
use Rattle.pc_world.specs.Send.Settling.{MayFinish}

-- what may be done of a job may be done still, whichever way it begins
pub settles_on : (k now : Known) (job : Job) → (MayFinish k job.meta.id job.meta.anchor job.fate job.locks → MayFinish now job.meta.id job.meta.anchor job.fate job.locks)
    → ((ts : ℕ) → MayBeCommittedFirst k ts (left_for job) → MayBeCommittedFirst now ts (left_for job)) → MayFinishJob k job → MayFinishJob now job
settles_on k now job finishes first may = by job.staged may
  where
    by : (staged : Option ℕ) → MayBeSettledAfter staged k (left_for job) → MayBeSettledAfter staged now (left_for job)
    by None may = finishes may
    by (Some ts) may = first ts may

module _ (k : Known) (job : Job) (left : IsFinishable k job) (ts : ℕ) (may : MayBeCommittedFirst k ts (left_for job)) where
  abbrev its_txn : Txn
  its_txn = may.commit.t

  its_id : job.meta.id ≡ its_txn.id
  its_id = ap (λ (meta : TxnMeta). meta.id) may.commit.whose.same

  -- a call is asked
  pub first_asked : (call : Call) (reading : ℕ) → MayBeCommittedFirst (with_asked call reading k) ts (left_for job)
  first_asked call reading =
      first_kept k (with_asked call reading k) job ts left.other may
      (record {
        sent_more = [];
        sent = sym (append-nil k.sent);
        unsent = All-nil (λ (m : Sent). is_about its_txn.id m.request ≡ false);
        heard_more = [];
        heard = sym (append-nil k.heard);
        unheard = All-nil (λ (h : Heard). is_about its_txn.id h.request ≡ false);
        top = omega arith;
        there = may.commit.mine;
      })

  -- a message is sent that says nothing of it
  pub first_sent : (number range : ℕ) (request : Request) → LeavesAlone job.meta.id request → MayBeCommittedFirst (with_sent number range request k) ts (left_for job)
  first_sent number range request alone =
      let its : LeavesAlone its_txn.id request = subst (λ id. LeavesAlone id request) its_id alone in
      let m : Sent = record { number = number; range = range; request = request } in
      first_kept k (with_sent number range request k) job ts left.other may
      (record {
        sent_more = m ∷ [];
        sent = refl;
        unsent = All-cons (λ (m : Sent). is_about its_txn.id m.request ≡ false) m [] its.about (All-nil (λ (m : Sent). is_about its_txn.id m.request ≡ false));
        heard_more = [];
        heard = sym (append-nil k.heard);
        unheard = All-nil (λ (h : Heard). is_about its_txn.id h.request ≡ false);
        top = omega arith;
        there = subst (Contains (map (txn_sent request) k.txns)) (sent_alone request its_txn its) (contains_map (txn_sent request) k.txns its_txn may.commit.mine);
      })

  -- a reply to one is heard
  pub first_heard : (h : Heard) → LeavesAlone job.meta.id h.request → MayBeCommittedFirst (with_heard h k) ts (left_for job)
  first_heard h alone =
      let its : LeavesAlone its_txn.id h.request = subst (λ id. LeavesAlone id h.request) its_id alone in
      first_kept k (with_heard h k) job ts left.other may
      (record {
        sent_more = [];
        sent = sym (append-nil k.sent);
        unsent = All-nil (λ (m : Sent). is_about its_txn.id m.request ≡ false);
        heard_more = h ∷ [];
        heard = refl;
        unheard = All-cons (λ (h : Heard). is_about its_txn.id h.request ≡ false) h [] its.about (All-nil (λ (h : Heard). is_about its_txn.id h.request ≡ false));
        top = omega arith;
        there = subst (Contains (map (txn_heard k.sent (Some h)) k.txns)) (heard_alone h.request h.number h.step h.reply k.sent its_txn its) (contains_map (txn_heard k.sent (Some h)) k.txns its_txn may.commit.mine);
      })

  -- an answer is told
  pub first_told : (answer : Answer) → MayBeCommittedFirst (with_told answer k) ts (left_for job)
  first_told answer =
      first_kept k (with_told answer k) job ts left.other may
      (record {
        sent_more = [];
        sent = sym (append-nil k.sent);
        unsent = All-nil (λ (m : Sent). is_about its_txn.id m.request ≡ false);
        heard_more = [];
        heard = sym (append-nil k.heard);
        unheard = All-nil (λ (h : Heard). is_about its_txn.id h.request ≡ false);
        top = omega arith;
        there = told_keeps answer k its_txn may.commit.mine (λ u opened same. left.other u opened (its_id ∙ ap (λ (x : Txn). x.id) same));
      })

  -- a commit is met
  pub first_met : (id : TxnId) (at : ℕ) → MayBeCommittedFirst (known_met id at k) ts (left_for job)
  first_met id at =
      first_kept k (known_met id at k) job ts left.other may
      (record {
        sent_more = [];
        sent = sym (append-nil k.sent);
        unsent = All-nil (λ (m : Sent). is_about its_txn.id m.request ≡ false);
        heard_more = [];
        heard = sym (append-nil k.heard);
        unheard = All-nil (λ (h : Heard). is_about its_txn.id h.request ≡ false);
        top = omega arith;
        there = may.commit.mine;
      })
