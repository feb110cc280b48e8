-- The history with a staged commit is a run: entry by entry, what lets it come.
use Rattle.std.proofs.Common.{◌≢◌, ℕ, ◌+◌, ◌≤◌, [], ◌∷◌, Some, IfSome, IsTrue, inl, inr, Any, refl, slice_get, take, codes, arith}
use Rattle.std.proofs.lemmas.List.Elements.{All-from_recursion}
use Rattle.pc_base.specs.declared.actor.ActorId.TheVariants as actors
use Rattle.pc_history.specs.History.{MayFollow}
use Rattle.pc_history.specs.Own.{own}
use Rattle.pc_serial.specs.FirstRow.{first_head, first_ts, first_txn}
use Rattle.pc_serial.specs.StagedRow.{staged_history}
use Rattle.pc_world.specs.Known.{Known, known_of}
use Rattle.pc_world.specs.Known.Writes.{IsProvedBy, Write, is_proved}
use Rattle.pc_world.specs.Local.{IsActorOf}
use Rattle.pc_world.specs.Run.{IsRun, protocol}
use Rattle.pc_world.specs.Send.Settling.{WasResolved}
use Rattle.pc_world.specs.Send.Stage.{IsPassed}
use Rattle.pc_world.specs.StageFate.{IsLate, OnCommit, OnStage, WasCommitRefused}

-- The entry at this place may follow those before it.
abbrev pub Comes : ℕ → Type 0
Comes n = IfSome (slice_get staged_history n) (MayFollow (protocol first_head) (take n staged_history))

-- What the session knows before this entry.
abbrev pub known_before : ℕ → Known
known_before n = known_of (own (protocol first_head) (actors.Session 1) (take n staged_history))

-- The one write, while it is on its way, and once it is proved.
abbrev write_sent : Write
write_sent = record { key = codes "a"; seq = 1; value = Some (codes "x"); asked = first_ts ∷ []; proofs = [] }

abbrev write_proved : Write
write_proved = record { key = codes "a"; seq = 1; value = Some (codes "x"); asked = first_ts ∷ []; proofs = first_ts ∷ [] }

session : IsActorOf first_head (actors.Session 1)
session = (omega arith, omega arith)

range : IsActorOf first_head (actors.Range 0)
range = omega arith

e0 : Comes 0
e0 = record { step = refl; local = record { there = session; next = record { none_open = refl; whose = refl; outside = λ _. refl } }; caused = tt }

e1 : Comes 1
e1 = record { step = refl; local = record { there = session; next = record { s = _; opened = refl; told = record { priority = _; asked = refl; next = (refl, refl); at = refl } } }; caused = tt }

e2 : Comes 2
e2 = record { step = refl; local = record { there = session; next = record { none_open = refl; whose = refl; outside = λ h. absurd cc } }; caused = tt }

e3 : Comes 3
e3 = record {
  step = refl;
  local = record {
    there = session;
    next = record {
      next = refl;
      there = refl;
      stamps = All-from_recursion (λ ts. ts ≤ first_ts + 1) (first_ts ∷ []) (omega arith, tt);
      row = inl (record {
        t = _;
        opened = refl;
        asked = refl;
        whose = refl;
        next = refl;
        at_write_ts = refl;
        earlier = λ k d lt. absurd (omega arith);
        uncommitted = record { stages = λ k d lt. absurd (omega arith); commits = λ k d lt. absurd (omega arith) };
      });
    };
  };
  caused = tt;
}

e4 : Comes 4
e4 = record {
  step = refl;
  local = record {
    there = session;
    next = record {
      s = _;
      opened = refl;
      told = record {
        t = _;
        opened = refl;
        sent = (0, _, omega arith, refl, record { seq = 1; key = _; value = Some _; asked = refl; put = (refl, refl, refl, refl, refl); first = refl });
      };
    };
  };
  caused = tt;
}

e5 : Comes 5
e5 = record { step = refl; local = record { there = session; next = record { none_open = refl; whose = refl; outside = λ h. absurd cc } }; caused = tt }

e6 : Comes 6
e6 = record {
  step = refl;
  local = record {
    there = session;
    next = record {
      next = refl;
      there = refl;
      stamps = All-from_recursion (λ ts. ts ≤ first_ts + 1) (first_ts ∷ []) (omega arith, tt);
      row = inl (record {
        t = _;
        opened = refl;
        asked = refl;
        whose = record { anchored = refl; same = refl };
        good = record { begun = omega arith; reads = λ k d lt. absurd (omega arith) };
        proved = All-from_recursion (λ w. IsTrue (is_proved w) → IsProvedBy first_ts w) (write_sent ∷ []) ((λ h. absurd cc), tt);
        in_flight = refl;
        some = λ h. cc h;
        at_write_ts = refl;
        read_now = refl;
        all_locks = refl;
        stages = All-from_recursion (λ m. OnStage first_txn (IsPassed (known_before 6).heard first_ts) m.request) (known_before 6).sent (tt, tt);
        commits = All-from_recursion (λ m. OnCommit first_txn (WasCommitRefused (known_before 6).heard) m.request) (known_before 6).sent (tt, tt);
      });
    };
  };
  caused = tt;
}

e7 : Comes 7
e7 = record { step = refl; local = record { there = range; next = refl }; caused = (3, _, omega arith, refl, record { whose = refl; send = (refl, refl) }) }

e8 : Comes 8
e8 = record { step = refl; local = record { there = range; next = refl }; caused = (6, _, omega arith, refl, record { whose = refl; send = (refl, refl) }) }

e9 : Comes 9
e9 = record { step = refl; local = record { there = session; next = record { sent = refl; unheard = refl } }; caused = (7, _, omega arith, refl, record { at = refl; eval = (refl, refl) }) }

e10 : Comes 10
e10 = record { step = refl; local = record { there = session; next = record { sent = refl; unheard = refl } }; caused = (8, _, omega arith, refl, record { at = refl; eval = (refl, refl) }) }

e11 : Comes 11
e11 = record {
  step = refl;
  local = record {
    there = session;
    next = record {
      s = _;
      opened = refl;
      told = record {
        t = _;
        opened = refl;
        asked = refl;
        whose = refl;
        why = inr (inr (record {
          staging = (1, _, omega arith, refl, refl);
          proved = All-from_recursion (IsProvedBy first_ts) (write_proved ∷ []) ((0, _, omega arith, refl, omega arith), tt);
        }));
      };
    };
  };
  caused = tt;
}

e12 : Comes 12
e12 = record {
  step = refl;
  local = record {
    there = session;
    next = record {
      next = refl;
      there = refl;
      stamps = All-from_recursion (λ ts. ts ≤ first_ts + 1) (first_ts ∷ []) (omega arith, tt);
      row = record {
        t = _;
        mine = (0, omega arith, refl);
        whose = record { anchored = refl; same = refl };
        all_locks = refl;
        decided = inl (record {
          may = inr refl;
          at_write_ts = refl;
          good = record { begun = omega arith; reads = λ k d lt. absurd (omega arith) };
          proved = All-from_recursion (IsProvedBy first_ts) (write_proved ∷ []) ((0, _, omega arith, refl, omega arith), tt);
          stages = All-from_recursion (λ m. OnStage first_txn (λ s. s.ts ≢ first_ts → IsLate (known_before 12).heard s) m.request) (known_before 12).sent (tt, ((λ same differ. absurd (differ refl)), tt));
          commits = All-from_recursion (λ m. OnCommit first_txn (λ c. c.ts ≢ first_ts → WasCommitRefused (known_before 12).heard c) m.request) (known_before 12).sent (tt, (tt, tt));
        });
      };
    };
  };
  caused = tt;
}

e13 : Comes 13
e13 = record { step = refl; local = record { there = range; next = refl }; caused = (12, _, omega arith, refl, record { whose = refl; send = (refl, refl) }) }

e14 : Comes 14
e14 = record { step = refl; local = record { there = session; next = record { sent = refl; unheard = refl } }; caused = (13, _, omega arith, refl, record { at = refl; eval = (refl, refl) }) }

e15 : Comes 15
e15 = record {
  step = refl;
  local = record {
    there = session;
    next = record {
      next = refl;
      there = refl;
      stamps = All-from_recursion (λ ts. ts ≤ first_ts + 1) (first_ts ∷ []) (omega arith, tt);
      row = (2, _, omega arith, refl, record { about = refl; view = _; told = refl; fits = (refl, refl) });
    };
  };
  caused = tt;
}

e16 : Comes 16
e16 = record { step = refl; local = record { there = range; next = refl }; caused = (15, _, omega arith, refl, record { whose = refl; send = (refl, refl) }) }

e17 : Comes 17
e17 = record { step = refl; local = record { there = session; next = record { sent = refl; unheard = refl } }; caused = (16, _, omega arith, refl, record { at = refl; eval = (refl, refl) }) }

e18 : Comes 18
e18 = record {
  step = refl;
  local = record {
    there = session;
    next = record {
      next = refl;
      there = refl;
      stamps = λ k d lt. absurd (omega arith);
      row = record {
        shown = _;
        locks = codes "a" ∷ [];
        anchored = refl;
        final = (2, _, omega arith, refl, record { about = refl; view = _; told = refl; final = refl });
        must = inl (_, (0, omega arith, refl), refl, refl);
        settled = All-from_recursion (λ key. Any (WasResolved first_txn key) (known_before 18).heard) (codes "a" ∷ []) ((3, _, omega arith, refl, (_, record { asked = refl; told = refl })), tt);
      };
    };
  };
  caused = tt;
}

e19 : Comes 19
e19 = record { step = refl; local = record { there = range; next = refl }; caused = (18, _, omega arith, refl, record { whose = refl; send = (refl, refl) }) }

e20 : Comes 20
e20 = record { step = refl; local = record { there = session; next = record { sent = refl; unheard = refl } }; caused = (19, _, omega arith, refl, record { at = refl; eval = (refl, refl) }) }

pub staged_run : IsRun first_head staged_history
staged_run = (e0, (e1, (e2, (e3, (e4, (e5, (e6, (e7, (e8, (e9, (e10, (e11, (e12, (e13, (e14, (e15, (e16, (e17, (e18, (e19, (e20, tt)))))))))))))))))))))
