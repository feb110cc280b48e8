-- How requests are spelled: the request's name, and its fields in their order. Own profile.
use Rattle.std.specs.Prelude.{ℕ, List, codes}
use Rattle.std.specs.Fmt.{decimal}
use Rattle.pc_proto.specs.declared.request.Request.{Request}
use Rattle.pc_proto.specs.declared.request.Request.TheVariants as requests
use Rattle.pc_journal.specs.Lists.{listed}
use Rattle.pc_journal.specs.Meta.{meta_text, point_text, write_text}
use Rattle.pc_journal.specs.Names.{id_text, priority_text, who_text}
use Rattle.pc_journal.specs.Number.{ts_text}
use Rattle.pc_journal.specs.Optional.{or_dash, key_text, value_text}
use Rattle.pc_journal.specs.Side.{◌·◌}
use Rattle.pc_journal.specs.Span.{span_text}
use Rattle.pc_journal.specs.View.{goal_text, finding_text, fate_text}
use Rattle.pc_journal.specs.Why.{why_text}

-- One line's worth of a request: `put 1.1:0:normal:10:a 1 10.0 a =x`, `push 1.1:0:normal:10:a 2.1 high 20 move 20.1`.
abbrev pub request_text : Request → List ℕ
request_text (requests.Get id epoch seq ts key) = codes "get" · point_text id epoch seq · ts_text ts · key_text key
request_text (requests.Scan id epoch seq ts span) = codes "scan" · point_text id epoch seq · ts_text ts · span_text span
request_text (requests.Put meta seq ts key value) = codes "put" · meta_text meta · decimal seq · ts_text ts · key_text key · or_dash value_text value
request_text (requests.Refresh id from to span) = codes "refresh" · id_text id · ts_text from · ts_text to · span_text span
request_text (requests.Beat meta ts now) = codes "beat" · meta_text meta · ts_text ts · decimal now
request_text (requests.Stage meta ts now writes locks) = codes "stage" · meta_text meta · ts_text ts · decimal now · listed write_text writes · listed key_text locks
request_text (requests.Commit meta ts locks) = codes "commit" · meta_text meta · ts_text ts · listed key_text locks
request_text (requests.Abort meta why locks) = codes "abort" · meta_text meta · why_text why · listed key_text locks
request_text (requests.Push holder by level now goal) = codes "push" · meta_text holder · who_text by · priority_text level · decimal now · goal_text goal
request_text (requests.Query id epoch seq ts key by) = codes "query" · point_text id epoch seq · ts_text ts · key_text key · who_text by
request_text (requests.Recover id epoch ts anchor finding) = codes "recover" · id_text id · decimal epoch · ts_text ts · key_text anchor · finding_text finding
request_text (requests.Resolve id key fate) = codes "resolve" · id_text id · key_text key · fate_text fate
request_text (requests.Remove id anchor) = codes "remove" · id_text id · key_text anchor
request_text requests.Records = codes "records"
