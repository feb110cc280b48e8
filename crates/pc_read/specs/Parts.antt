-- What a borrowed meta, span or cause of an abort stands for. Own profile.
use Rattle.std.specs.Prelude.{Option, Some, option_map, option_and_then}
use Rattle.pc_base.specs.declared.span.Span.{Span}
use Rattle.pc_base.specs.declared.span.Span.TheVariants as spans
use Rattle.pc_proto.specs.declared.meta.TxnMeta.{TxnMeta}
use Rattle.pc_proto.specs.declared.why.Why.{Why}
use Rattle.pc_proto.specs.declared.why.Why.TheVariants as whys
use Rattle.pc_read.specs.declared.part.MetaRef.{MetaRef}
use Rattle.pc_read.specs.declared.part.SpanRef.{SpanRef}
use Rattle.pc_read.specs.declared.part.SpanRef.TheVariants as span_refs
use Rattle.pc_read.specs.declared.part.WhyRef.{WhyRef}
use Rattle.pc_read.specs.declared.part.WhyRef.TheVariants as why_refs
use Rattle.pc_read.specs.Texts.{own_key, own_option}

abbrev pub own_meta : MetaRef → Option TxnMeta
own_meta m =
    option_map (λ anchor. record { id = m.id; epoch = m.epoch; priority = m.priority; born = m.born; anchor = anchor }) (own_key m.anchor)

abbrev pub own_span : SpanRef → Option Span
own_span (span_refs.One key) = option_map spans.One (own_key key)
own_span (span_refs.Between from to) =
    option_and_then (λ first. option_map (λ last. spans.Between first last) (own_option own_key to)) (own_option own_key from)

abbrev pub own_why : WhyRef → Option Why
own_why (why_refs.Pushed by) = Some (whys.Pushed by)
own_why (why_refs.Missing key by) = option_map (λ k. whys.Missing k by) (own_key key)
own_why (why_refs.Refresh key ts) = option_map (λ k. whys.Refresh k ts) (own_key key)
own_why why_refs.Client = Some whys.Client
