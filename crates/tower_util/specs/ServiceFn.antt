-- What contracts see of a `ServiceFn`.

pub record ServiceFnView (T : Type 0) : Type 0 where
  pub f : T
