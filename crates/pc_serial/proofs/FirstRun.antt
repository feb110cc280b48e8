-- The history of the smallest workload is a run: entry by entry, what lets it come.
use Rattle.std.proofs.Common.{◌≢◌, ℕ, ◌+◌, ◌≤◌, [], ◌∷◌, Some, IfSome, inl, inr, refl, slice_get, take, codes, arith}
use Rattle.std.proofs.lemmas.List.Elements.{All-from_recursion}
use Rattle.pc_base.specs.declared.actor.ActorId.TheVariants as actors
use Rattle.pc_history.specs.History.{MayFollow}
use Rattle.pc_history.specs.Own.{own}
use Rattle.pc_serial.proofs.Legal.{is-legal}
use Rattle.pc_serial.specs.FirstRow.{first_head, first_history, first_ts, first_txn}
use Rattle.pc_serial.specs.FirstRun.{FirstRowIsARun}
use Rattle.pc_world.specs.Known.{Known, known_of}
use Rattle.pc_world.specs.Known.Writes.{IsProvedBy, Write}
use Rattle.pc_world.specs.Local.{IsActorOf}
use Rattle.pc_world.specs.Run.{IsRun, protocol}
use Rattle.pc_world.specs.StageFate.{IsLate, OnCommit, OnStage, WasCommitRefused}

-- The entry at this place may follow those before it.
abbrev Follows : ℕ → Type 0
Follows n = IfSome (slice_get first_history n) (MayFollow (protocol first_head) (take n first_history))

-- The one write, once it is proved.
abbrev first_write : Write
first_write = record { key = codes "a"; seq = 1; value = Some (codes "x"); asked = first_ts ∷ []; proofs = first_ts ∷ [] }

-- What the session knows when it sends its commit.
abbrev before_commit : Known
before_commit = known_of (own (protocol first_head) (actors.Session 1) (take 8 first_history))

session : IsActorOf first_head (actors.Session 1)
session = (omega arith, omega arith)

range : IsActorOf first_head (actors.Range 0)
range = omega arith

asks_begin : Follows 0
asks_begin = record { step = refl; local = record { there = session; next = record { none_open = refl; whose = refl; outside = λ _. refl } }; caused = tt }

tells_begun : Follows 1
tells_begun = record { step = refl; local = record { there = session; next = record { s = _; opened = refl; told = record { priority = _; asked = refl; next = (refl, refl); at = refl } } }; caused = tt }

asks_put : Follows 2
asks_put = record { step = refl; local = record { there = session; next = record { none_open = refl; whose = refl; outside = λ h. absurd cc } }; caused = tt }

sends_put : Follows 3
sends_put = record {
  step = refl;
  local = record {
    there = session;
    next = record {
      next = refl;
      there = refl;
      stamps = All-from_recursion (λ ts. ts ≤ first_ts + 1) (first_ts ∷ []) (omega arith, tt);
      row = inl (record {
        t = _;
        opened = refl;
        asked = refl;
        whose = refl;
        next = refl;
        at_write_ts = refl;
        earlier = λ k d lt. absurd (omega arith);
        uncommitted = record { stages = λ k d lt. absurd (omega arith); commits = λ k d lt. absurd (omega arith) };
      });
    };
  };
  caused = tt;
}

evaluates_put : Follows 4
evaluates_put = record { step = refl; local = record { there = range; next = refl }; caused = (3, _, omega arith, refl, record { whose = refl; send = (refl, refl) }) }

hears_put : Follows 5
hears_put = record { step = refl; local = record { there = session; next = record { sent = refl; unheard = refl } }; caused = (4, _, omega arith, refl, record { at = refl; eval = (refl, refl) }) }

tells_written : Follows 6
tells_written = record {
  step = refl;
  local = record {
    there = session;
    next = record {
      s = _;
      opened = refl;
      told = record {
        t = _;
        opened = refl;
        sent = (0, _, omega arith, refl, record { seq = 1; key = _; value = Some _; asked = refl; put = (refl, refl, refl, refl, refl); first = refl });
      };
    };
  };
  caused = tt;
}

asks_commit : Follows 7
asks_commit = record { step = refl; local = record { there = session; next = record { none_open = refl; whose = refl; outside = λ h. absurd cc } }; caused = tt }

sends_commit : Follows 8
sends_commit = record {
  step = refl;
  local = record {
    there = session;
    next = record {
      next = refl;
      there = refl;
      stamps = All-from_recursion (λ ts. ts ≤ first_ts + 1) (first_ts ∷ []) (omega arith, tt);
      row = record {
        t = _;
        mine = (0, omega arith, refl);
        whose = record { anchored = refl; same = refl };
        all_locks = refl;
        decided = inl (record {
          may = inl (refl, refl);
          at_write_ts = refl;
          good = record { begun = omega arith; reads = λ k d lt. absurd (omega arith) };
          proved = All-from_recursion (IsProvedBy first_ts) (first_write ∷ []) ((0, _, omega arith, refl, omega arith), tt);
          stages = All-from_recursion (λ m. OnStage first_txn (λ s. s.ts ≢ first_ts → IsLate before_commit.heard s) m.request) before_commit.sent (tt, tt);
          commits = All-from_recursion (λ m. OnCommit first_txn (λ c. c.ts ≢ first_ts → WasCommitRefused before_commit.heard c) m.request) before_commit.sent (tt, tt);
        });
      };
    };
  };
  caused = tt;
}

evaluates_commit : Follows 9
evaluates_commit = record { step = refl; local = record { there = range; next = refl }; caused = (8, _, omega arith, refl, record { whose = refl; send = (refl, refl) }) }

hears_commit : Follows 10
hears_commit = record { step = refl; local = record { there = session; next = record { sent = refl; unheard = refl } }; caused = (9, _, omega arith, refl, record { at = refl; eval = (refl, refl) }) }

tells_committed : Follows 11
tells_committed = record { step = refl; local = record { there = session; next = record { s = _; opened = refl; told = record { t = _; opened = refl; asked = refl; whose = refl; why = inr (inl (1, _, omega arith, refl, refl)) } } }; caused = tt }

run : IsRun first_head first_history
run = (asks_begin, (tells_begun, (asks_put, (sends_put, (evaluates_put, (hears_put, (tells_written, (asks_commit, (sends_commit, (evaluates_commit, (hears_commit, (tells_committed, tt))))))))))))

pub first_row_is_a_run : FirstRowIsARun
first_row_is_a_run = record { run = run; legal = is-legal first_head first_history run }
