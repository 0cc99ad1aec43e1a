use Rattle.std.proofs.Common.{◌+◌, take, sym, ◌∙◌, subst}
use Rattle.share_modes.specs.Entries.{known}
use Rattle.smbstatus_text.specs.Opens.{FindsOpens}
use Rattle.smbstatus_text.proofs.Found.{finds_counted, finds_uncounted}
use Rattle.smbstatus_text.proofs.opens.opens_by_id.Goals.{then-counts+in_ok-keep, else-counts}
use Rattle.smbstatus_text.proofs.opens.opens_by_id.Goals as goal

pub loop-entry-preserved : goal.loop-entry-preserved
loop-entry-preserved c =
    let a = c.args in
    let records = known a.leases.now a.register.now in
    let i = c.loop-entry.entry-index in
    elim c.if-counts.branch [
      | then-counts+in_ok-keep w ↦ subst (λ map. FindsOpens records a.file map (take (i + 1) a.entries.now)) (sym w.map-is)
          (finds_counted records a.file a.entries.now i _ c.loop-entry-test.true c.loop-entry.map w.keep.new.map w.key_of.result (sym c.counts.ensures ∙ w.if-counts.true) w.key_of.ensures w.in_ok-keep.ensures c.loop-entry.invariant)
      | else-counts w ↦ subst (λ map. FindsOpens records a.file map (take (i + 1) a.entries.now)) (sym w.map-is)
          (finds_uncounted records a.file a.entries.now i _ c.loop-entry-test.true c.loop-entry.map (sym c.counts.ensures ∙ w.if-counts.false) c.loop-entry.invariant)
    ]
