pub mod FreshDomains
