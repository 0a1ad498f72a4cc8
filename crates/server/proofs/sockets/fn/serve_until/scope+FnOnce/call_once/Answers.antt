-- What crosses to another thread does so by the closure's own `requires`.
use Rattle.server.proofs.sockets.fn.serve_until.scope+FnOnce.call_once.Goals as goal

pub scope-requires : goal.scope-requires
scope-requires g c =
    let shares = c.requires.1.1.1.0 in
    let handle = c.requires.1.1.1.1.0 in
    (handle, (shares, (shares, handle)))
