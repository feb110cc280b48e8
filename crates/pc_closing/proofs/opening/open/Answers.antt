use Rattle.std.proofs.Common.{refl}
use Rattle.pc_closing.proofs.Seating.{all_seated, as_seated, as_seated_first, second_seats, second_sessions, third_seats, third_sessions}
use Rattle.pc_closing.specs.Opening.{seats_up_to}
use Rattle.pc_range.specs.Seats.{range_ids}
use Rattle.pc_closing.proofs.opening.open.Goals as goal

pub seat_clients-requires-clause-before : goal.seat_clients-requires-clause-before
seat_clients-requires-clause-before g c =
    second_seats range_ids c.args.blank.world c.args.splits c.args.sessions c.args.recoverers c.start-opener.result c.start.new.opener c.requires.world c.start-opener.ensures c.in_ok-ranges.ensures.seated seats_up_to (λ head n. refl)

pub seat_clients-requires-clause-sessions : goal.seat_clients-requires-clause-sessions
seat_clients-requires-clause-sessions g c =
    second_sessions range_ids c.args.blank.world c.args.splits c.args.sessions c.args.recoverers c.start-opener.result c.start.new.opener c.requires.world c.start-opener.ensures c.in_ok-ranges.ensures.seated

pub seat_clients-requires-2-clause-before : goal.seat_clients-requires-2-clause-before
seat_clients-requires-2-clause-before g c =
    third_seats range_ids c.args.blank.world c.args.splits c.args.sessions c.args.recoverers c.start-opener.result c.start.new.opener c.requires.world c.start-opener.ensures c.in_ok-ranges.ensures.seated c.seat_clients.new.opener seats_up_to c.in_ok-first.ensures.seated

pub seat_clients-requires-2-clause-sessions : goal.seat_clients-requires-2-clause-sessions
seat_clients-requires-2-clause-sessions g c =
    third_sessions range_ids c.args.blank.world c.args.splits c.args.sessions c.args.recoverers c.start-opener.result c.start.new.opener c.requires.world c.start-opener.ensures c.in_ok-ranges.ensures.seated c.seat_clients.new.opener seats_up_to c.in_ok-first.ensures.seated

pub returns-clause-opener : goal.returns-clause-opener
returns-clause-opener g c =
    all_seated range_ids c.args.blank.world c.args.splits c.args.sessions c.args.recoverers c.start-opener.result c.start.new.opener c.requires.world c.start-opener.ensures c.in_ok-ranges.ensures.seated c.seat_clients.new.opener seats_up_to c.in_ok-first.ensures.seated
    c.seat_clients-2.new.opener c.in_ok-behind.ensures.seated

pub returns-clause-sessions : goal.returns-clause-sessions
returns-clause-sessions g c =
    as_seated_first range_ids c.args.blank.world c.args.splits c.args.sessions c.args.recoverers c.start-opener.result c.start.new.opener c.requires.world c.start-opener.ensures c.in_ok-ranges.ensures.seated 0 c.args.sessions c.in_ok-first.first.items c.in_ok-first.ensures.actors

pub returns-clause-recoverers : goal.returns-clause-recoverers
returns-clause-recoverers g c =
    as_seated range_ids c.args.blank.world c.args.splits c.args.sessions c.args.recoverers c.start-opener.result c.start.new.opener c.requires.world c.start-opener.ensures c.in_ok-ranges.ensures.seated c.seat_clients.new.opener seats_up_to c.in_ok-first.ensures.seated
    c.args.sessions _ c.in_ok-behind.behind.items c.in_ok-behind.ensures.actors
