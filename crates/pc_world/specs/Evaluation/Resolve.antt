-- Resolve: settles a transaction's intent at a key. Of a committed transaction only an intent of the committed epoch, at or
-- below the commit timestamp, becomes a version; any other goes. SIGMOD 2020 paper, section 3.2.
use Rattle.std.specs.Prelude.{ℕ, max, nat_le, Bool, ◌&&◌, ◌==◌, if◌then◌else◌, Option, None, Some, List, [], ◌∷◌, fold}
use Rattle.pc_base.specs.declared.transaction.TxnId.{TxnId}
use Rattle.pc_base.specs.declared.version.Version.{Version}
use Rattle.pc_base.specs.Versions.{with_version}
use Rattle.pc_proto.specs.declared.fate.Fate.{Fate}
use Rattle.pc_proto.specs.declared.fate.Fate.TheVariants as fates
use Rattle.pc_proto.specs.declared.record.Intent.{Intent}
use Rattle.pc_proto.specs.Intents.{last_value, own_at}
use Rattle.pc_world.specs.RangeState.{RangeState}
use Rattle.pc_world.specs.Evaluation.IntentChange.{IntentChange, Leave, Lay, Drop}

-- What the fate does to the intent.
abbrev pub settled : Fate → Intent → IntentChange
settled (fates.Committed epoch ts) i = Drop
settled fates.Aborted i = Drop
settled (fates.Pending ts) i = Lay (record i { ts = max i.ts ts })

-- The intent is of the committed epoch, and lies at or below the commit timestamp.
abbrev pub is_committed_by : ℕ → ℕ → Intent → Bool
is_committed_by epoch ts i = i.meta.epoch == epoch && nat_le i.ts ts

-- The committed version of what the intent says, if it says anything.
abbrev pub version_for : TxnId → List ℕ → ℕ → Option (Option (List ℕ)) → List Version
version_for id key ts None = []
version_for id key ts (Some value) = record { key = key; ts = ts; id = id; value = value } ∷ []

-- The version that the intent becomes, if it becomes one.
abbrev pub versions_of : TxnId → List ℕ → Fate → Intent → List Version
versions_of id key (fates.Committed epoch ts) i =
    if is_committed_by epoch ts i then version_for id key ts (last_value i) else []
versions_of id key fates.Aborted i = []
versions_of id key (fates.Pending ts) i = []

-- What the fate does to the transaction's intent, where there is one.
abbrev pub change_for : Fate → Option Intent → IntentChange
change_for fate None = Leave
change_for fate (Some i) = settled fate i

-- What a resolve does to the intent at its key.
abbrev pub resolve_change : TxnId → List ℕ → Fate → RangeState → IntentChange
resolve_change id key fate s = change_for fate (own_at id key s.intents)

-- The version that the transaction's intent becomes, where there is one and it becomes one.
abbrev pub new_versions : TxnId → List ℕ → Fate → Option Intent → List Version
new_versions id key fate None = []
new_versions id key fate (Some i) = versions_of id key fate i

-- The range's versions after this resolve, still by key and timestamp.
abbrev pub versions_after_resolve : TxnId → List ℕ → Fate → RangeState → List Version
versions_after_resolve id key fate s = fold with_version s.versions (new_versions id key fate (own_at id key s.intents))
