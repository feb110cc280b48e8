-- What was heard in a round or a job was evaluated since it began; so it shows a transaction that had been told committed by then as that.
use Rattle.std.proofs.Common.{◌≡◌, ℕ, ◌+◌, ◌≤◌, ◌⊎◌, inl, inr, true, List, length, Some, Contains, refl, sym, ap, ◌∙◌, subst}
use Rattle.std.proofs.lemmas.List.Elements.{All-contains, Contains-append_right}
use Rattle.pc_desk.specs.Desk.{DeskMeaning, KeepsTrack}
use Rattle.pc_exchange.proofs.Aside.{lasts}
use Rattle.pc_exchange.proofs.EvaluatedSince.{IsHeardSince}
use Rattle.pc_exchange.proofs.ToldViews.{IsCommittedView, IsStagingView, fate_shown_since, told_shown_since}
use Rattle.pc_exchange.specs.Aside.{IsLaterAside}
use Rattle.pc_exchange.specs.Growing.{HasGoneBeside}
use Rattle.pc_history.specs.declared.pair.Pair.{Pair}
use Rattle.pc_proto.specs.declared.event.Event.{Event}
use Rattle.pc_proto.specs.declared.fate.Fate.TheVariants as fates
use Rattle.pc_proto.specs.declared.view.View.{View}
use Rattle.pc_proto.specs.declared.view.View.TheVariants as views
use Rattle.pc_proto.specs.Replies.{view_in}
use Rattle.pc_proto.specs.Requests.{is_about, subject}
use Rattle.pc_implicit.proofs.Views.{subject-is}
use Rattle.pc_world.specs.Known.{known_of}
use Rattle.pc_world.specs.Known.Traffic.{Heard}
use Rattle.pc_world.specs.Known.Transactions.{Txn}
use Rattle.pc_world.specs.Send.Settling.{MaySendResolve}

module _ {C : Type 0} (old new : DeskMeaning C) (part : List (Pair Event)) (goes : HasGoneBeside old new part) (track : KeepsTrack old) (session ts : ℕ) (l : IsLaterAside session (known_of old.log.part.own) (known_of new.log.part.own) ts) where
  there_now : (h : Heard) → Contains l.heard_more h → Contains (known_of new.log.part.own).heard h
  there_now h there = subst (λ hs. Contains hs h) (sym l.heard) (Contains-append_right (known_of old.log.part.own).heard l.heard_more h there)

  is_since : (h : Heard) → Contains l.heard_more h → IsHeardSince new.log old.log.part.own h
  is_since h there = record {
    part = part;
    whole = goes.grown.own;
    numbered = track.numbers;
    there = there_now h there;
    fresh = All-contains (λ (h : Heard). length (known_of old.log.part.own).sent + 1 ≤ h.number) l.heard_more h l.heard_first there;
  }

  -- a record that was heard to be committed before is shown so
  pub shows_fate : (h : Heard) → Contains l.heard_more h → (t : Txn) (epoch at : ℕ) → MaySendResolve (known_of old.log.part.own) t.id (fates.Committed epoch at) → (view : View) → subject h.request ≡ Some t.id → view_in h.reply ≡ Some view → IsCommittedView epoch at view
  shows_fate h there t epoch at known view about told = fate_shown_since new.log goes.back.track.log old.log.part.own h (is_since h there) t.id epoch at known view about told

  module _ (t : Txn) (anchor : List ℕ) (at : ℕ) (mine : Contains (known_of old.log.part.own).txns t) (anchored : t.anchor ≡ Some anchor) (committed : t.committed ≡ Some at) (h : Heard) (there : Contains l.heard_more h) where
    -- and one that was told committed before is shown so, or staging there
    pub shows_told : (view : View) → subject h.request ≡ Some t.id → view_in h.reply ≡ Some view → IsCommittedView t.epoch at view ⊎ IsStagingView t.epoch at view
    shows_told view about told =
        let u = lasts session (known_of old.log.part.own) (known_of new.log.part.own) ts l t mine in
        told_shown_since new.log goes.back.track.log old.log.part.own h (is_since h there) t anchor at mine anchored committed u.0 u.1 (ap (λ (x : Txn). x.id) u.2) (ap (λ (x : Txn). x.epoch) u.2) view about told

    -- so where it is not shown staging there, it was heard to be committed
    pub told_heard : is_about t.id h.request ≡ true → (view : View) → view_in h.reply ≡ Some view → (IsStagingView t.epoch at view → ⊥) → MaySendResolve (known_of new.log.part.own) t.id (fates.Committed t.epoch at)
    told_heard about view told unstaged = elim (shows_told view (subject-is t.id (subject h.request) about) told) [
      | inl shown ↦
          let place = there_now h there in (
            place.0,
            h,
            place.1,
            place.2,
            record {
              about = about;
              view = views.Committed t.epoch at shown.0;
              told = told ∙ ap (λ v. Some v) shown.1;
              fits = (refl, refl);
            },
          )
      | inr staged ↦ absurd (unstaged staged)
    ]
