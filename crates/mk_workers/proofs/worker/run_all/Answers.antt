use mathlib.Core.Bool.{false}
use mir.Syntax.{no_slot, static, to_table, ty_unit}
use denote.Param.Send.{param_send, arg_send}
use denote.Param.Sent.{code_sync}
use Rattle.mk_workers.proofs.Sending.{shared_sync, worker_send}
use Rattle.mk_workers.proofs.worker.run_all.Goals as goal

pub for_each_mut-requires-send-T : goal.for_each_mut-requires-send-T
for_each_mut-requires-send-T g c κs within =
    record { owned = (worker_send _ c.type_bounds.send-O).owned; leaving = (param_send 1 _ (worker_send _ (arg_send ty_unit (λ ℓ. false) _ c.type_bounds.send-O))).leaving }

pub for_each_mut-requires-sync-F : goal.for_each_mut-requires-sync-F
for_each_mut-requires-sync-F g c κs within =
    record {
      shared = λ x b o κ. (
        (
          ((λ q. tt), c.type_bounds.sync-R.shared x.0.now x.0.ref_ptr.0 x.0.ref_ptr.1 _),
          (((λ q. tt), (shared_sync (record { mir = static; lft = κs.1.1.1.1.1.1.1.1.0 }) _ _ _ c.type_bounds.sync-G (code_sync g.fn-1.I g.fn-1.coded (λ i. to_table no_slot 0 0))).shared x.1.now x.1.ref_ptr.0 x.1.ref_ptr.1 κ), tt),
        ),
        λ q. tt,
      );
    }
