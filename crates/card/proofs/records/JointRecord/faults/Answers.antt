use lib.Ieee.{of_bits, neg}
use Rattle.card.proofs.RecordFaults.{joint_are}
use Rattle.card.proofs.records.JointRecord.faults.Goals as goal

pub returns : goal.returns
unfolding of_bits neg
returns c =
    joint_are _ c.args.edition c.joint_bits-b.ensures c.kind_of-kind.ensures
    c.field.ensures c.field-2.ensures c.field-3.ensures c.field-4.ensures c.field-5.ensures c.field-6.ensures
    c.field-7.ensures c.field-8.ensures c.field-9.ensures c.field-10.ensures c.field-11.ensures c.field-12.ensures c.breaking_load-g.ensures
    c.wide_fault.ensures c.wide_fault-2.ensures c.limit_fault.ensures c.limit_fault-2.ensures c.norms_fault.ensures
