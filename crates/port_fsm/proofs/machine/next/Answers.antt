use Rattle.std.proofs.Common.{◌≡◌, subst, sym}
use Rattle.ptp_profile.specs.Port.PortStates.{next}
use Rattle.port_fsm.proofs.machine.next.Goals as goal

pub returns-in-Faulty : goal.returns-in-Faulty
returns-in-Faulty c = subst (λ s. c.from_faulty.result ≡ next s c.args.e c.args.new_parent) (sym c.in-Faulty.is) (c.from_faulty.ensures c.args.new_parent)

pub returns-in-Listening : goal.returns-in-Listening
returns-in-Listening c = subst (λ s. c.from_listening.result ≡ next s c.args.e c.args.new_parent) (sym c.in-Listening.is) (c.from_listening.ensures c.args.new_parent)

pub returns-in-PreMaster : goal.returns-in-PreMaster
returns-in-PreMaster c = subst (λ s. c.from_pre_master.result ≡ next s c.args.e c.args.new_parent) (sym c.in-PreMaster.is) (c.from_pre_master.ensures c.args.new_parent)

pub returns-in-Master : goal.returns-in-Master
returns-in-Master c = subst (λ s. c.from_master.result ≡ next s c.args.e c.args.new_parent) (sym c.in-Master.is) (c.from_master.ensures c.args.new_parent)

pub returns-in-Passive : goal.returns-in-Passive
returns-in-Passive c = subst (λ s. c.from_passive.result ≡ next s c.args.e c.args.new_parent) (sym c.in-Passive.is) (c.from_passive.ensures c.args.new_parent)

pub returns-in-Uncalibrated : goal.returns-in-Uncalibrated
returns-in-Uncalibrated c = subst (λ s. c.from_uncalibrated.result ≡ next s c.args.e c.args.new_parent) (sym c.in-Uncalibrated.is) (c.from_uncalibrated.ensures c.args.new_parent)
