-- A class of keys: what the search tree knows of keys, queries and items.

-- a key covers another; a key's items may match a query; an item matches a query; the key of an
-- item; the union of two keys
pub record Class (Key Query Item : Type 0) : Type 1 where
  pub Covers : Key → Key → Type 0
  pub Consistent : Key → Query → Type 0
  pub Matches : Item → Query → Type 0
  pub key_of : Item → Key
  pub united : Key → Key → Key

-- the laws that every class meets
pub record Laws {Key Query Item : Type 0} (C : Class Key Query Item) : Type 0 where
  pub reflexive : (key : Key) → C.Covers key key
  pub transitive : (a b c : Key) → C.Covers a b → C.Covers b c → C.Covers a c
  -- the union is the least key that covers both
  pub covers_first : (a b : Key) → C.Covers (C.united a b) a
  pub covers_second : (a b : Key) → C.Covers (C.united a b) b
  pub least : (a b cover : Key) → C.Covers cover a → C.Covers cover b
      → C.Covers cover (C.united a b)
  -- a key that covers a consistent key is consistent
  pub monotone : (a b : Key) (query : Query) → C.Covers a b → C.Consistent b query
      → C.Consistent a query
  -- the key of an item that matches is consistent
  pub sound : (item : Item) (query : Query) → C.Matches item query
      → C.Consistent (C.key_of item) query
